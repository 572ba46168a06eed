-- What the converter's steps come to: the numbers and the output by the first refusal, or by none. No axioms.
use mathlib.Core.List.{List, ◌++◌}
use mathlib.Core.Path.{◌≡◌, refl}
use Prim.Native.Nat.{ℕ, ◌≤◌, ◌<◌}
use lib.ListN.{length, drop}
use borrow.Author.Tests.{lt-ltb, le-ltb}
use Rattle.judgement.specs.Outcome.{found, refused_by}
use Rattle.judgement.specs.Refusals.{words_verdict}
use Rattle.judgement.specs.Verdicts.{Refusal, Sound, Faulty}
use Rattle.conversion.specs.RewrittenSheet.{rewritten}
use Rattle.conversion.specs.Conversion.{weights_verdict, conversion_verdict, conversion_numbers, numbers_judged, output_after, output_judged}

-- ---- of a sheet whose words are good

module _ (s : List ℕ) where
  pub weights_refused : (r : Refusal) (room : ℕ) → weights_verdict s ≡ Faulty r → refused_by r ≡ numbers_judged s room
  unfolding numbers_judged
  weights_refused r room e = rw e refl

  pub weights_leave : (r : Refusal) (old : List ℕ) → weights_verdict s ≡ Faulty r → old ≡ output_judged s old
  unfolding output_judged
  weights_leave r old e = rw e refl

  module _ (whole : weights_verdict s ≡ Sound) where
    pub room_refused : (room : ℕ) → room < length (rewritten s) → refused_by (record { number = 14; place = 0 }) ≡ numbers_judged s room
    unfolding numbers_judged
    room_refused room short = rw (whole, lt-ltb room (length (rewritten s)) short) refl

    pub room_leaves : (old : List ℕ) → length old < length (rewritten s) → old ≡ output_judged s old
    unfolding output_judged
    room_leaves old short = rw (whole, lt-ltb (length old) (length (rewritten s)) short) refl

    pub words_counted : (room : ℕ) → length (rewritten s) ≤ room → found (length (rewritten s)) ≡ numbers_judged s room
    unfolding numbers_judged
    words_counted room enough = rw (whole, le-ltb room (length (rewritten s)) enough) refl

    pub words_left : (old : List ℕ) → length (rewritten s) ≤ length old → rewritten s ++ drop (length (rewritten s)) old ≡ output_judged s old
    unfolding output_judged
    words_left old enough = rw (whole, le-ltb (length old) (length (rewritten s)) enough) refl

-- ---- of any sheet

pub words_refused : (s : List ℕ) (r : Refusal) (room : ℕ) → words_verdict s ≡ Faulty r → refused_by r ≡ conversion_numbers s room
unfolding conversion_numbers conversion_verdict
words_refused s r room e = rw e refl

pub words_leave : (s : List ℕ) (r : Refusal) (old : List ℕ) → words_verdict s ≡ Faulty r → old ≡ output_after s old
unfolding output_after conversion_verdict
words_leave s r old e = rw e refl

pub judged_numbers : (s : List ℕ) (room : ℕ) → words_verdict s ≡ Sound → numbers_judged s room ≡ conversion_numbers s room
unfolding conversion_numbers conversion_verdict numbers_judged
judged_numbers s room e = rw e refl

pub judged_output : (s old : List ℕ) → words_verdict s ≡ Sound → output_judged s old ≡ output_after s old
unfolding output_after conversion_verdict output_judged
judged_output s old e = rw e refl
