-- A sheet's file that is converted: whether the bytes have room is whether they have room for the words, and what is stored is the rewritten sheet's file. No axioms.
use mathlib.Core.Bool.{Bool, true, false}
use mathlib.Core.List.{List, ◌++◌}
use mathlib.Core.Path.{◌≡◌, refl, sym, ap, ◌∙◌}
use Prim.Native.Nat.{ℕ, ◌*◌, ◌/◌, ◌≤◌}
use native.Mathlib.Omega.{arith}
use lib.ListN.{length, take, drop, length-append}
use lib.Seq.{take_at}
use borrow.Author.Tests.{leb-true, leb-false}
use Rattle.limits.specs.SheetSize.{word_limit}
use Rattle.files.specs.FileForm.{good_length, file_words, bytes_fit, bytes_after}
use Rattle.files.proofs.FileLaws.{store_accepts, store_refuses}
use Rattle.std.specs.Prelude.{Result}
use Rattle.judgement.specs.Outcome.{Outcome, found, refused_by, numbers_of}
use Rattle.judgement.specs.Verdicts.{Refusal, Sound, Faulty}
use Rattle.judgement.specs.declared.Refusal.{Refusal as DeclaredRefusal}
use Rattle.judgement.proofs.JudgeSteps.{needed_sound}
use Rattle.judgement.proofs.JudgedLaws.{accepted_words}
use Rattle.judgement.proofs.OutcomeLaws.{found_means, refused_means, refused_when}
use Rattle.conversion.specs.RewrittenSheet.{rewritten}
use Rattle.conversion.specs.Conversion.{conversion_verdict, conversion_numbers, output_after}
use Rattle.conversion.specs.Judged.{Convertible, rewritten_length, by_room}
use Rattle.conversion.proofs.RewrittenLaws.{rewritten_length_lem}
use Rattle.conversion.proofs.JudgedLaws as judged
use Rattle.conversion_file.specs.FileConversion.{file_verdict, file_numbers, bytes_for, bytes_converted, stored_as}

-- ---- the words of a sheet that is converted with room for the longest sheet

module _ (s : List ℕ) (n : ℕ) (counted : found n ≡ conversion_numbers s word_limit) where
  sound : conversion_verdict s word_limit ≡ Sound
  unfolding conversion_numbers
  sound = (found_means n (length (rewritten s)) (conversion_verdict s word_limit) counted).0

  count_is : n ≡ length (rewritten s)
  unfolding conversion_numbers
  count_is = (found_means n (length (rewritten s)) (conversion_verdict s word_limit) counted).1

  can : Convertible s word_limit
  can = judged.converted_means s word_limit sound

  size_is : length (rewritten s) ≡ rewritten_length s
  size_is = rewritten_length_lem s (needed_sound s (accepted_words s can.words))

  -- they stand at the start of the words lent for them
  module _ (old : List ℕ) {after : List ℕ} (room : length old ≡ word_limit) (is : after ≡ output_after s old) where
    after_is : after ≡ rewritten s ++ drop (length (rewritten s)) old
    unfolding output_after
    after_is = is ∙ rw (room, sound) refl

    pub words_fit : n ≤ length after
    words_fit = omega (arith, count_is, ap length after_is, length-append (rewritten s) (drop (length (rewritten s)) old))

    pub words_at_start : take n after ≡ rewritten s
    words_at_start = ap (take n) after_is ∙ take_at (rewritten s) (drop (length (rewritten s)) old) n (sym count_is)

  -- ---- stored as bytes, or refused where the bytes are too few

  fits : (old : List ℕ) → bytes_fit (rewritten s) old ≡ true → conversion_verdict s (length old / 8) ≡ Sound
  fits old room =
      let enough = leb-true (8 * length (rewritten s)) (length old) room in
      judged.converted_when s (length old / 8) (record { words = can.words; all_whole = can.all_whole; enough = omega (arith, size_is) })

  too_few : (old : List ℕ) → bytes_fit (rewritten s) old ≡ false → conversion_verdict s (length old / 8) ≡ Faulty (record { number = 14; place = 0 })
  too_few old room =
      let short = leb-false (8 * length (rewritten s)) (length old) room in
      judged.refused_when s (length old / 8) (record { number = 14; place = 0 })
      (by_room (record { words = can.words; all_whole = can.all_whole; short = omega (arith, size_is); number_is = refl; place_is = refl }))

  pub stored_numbers : (old : List ℕ) {r : Result ℕ DeclaredRefusal} → r ≡ stored_as (rewritten s) old → numbers_of r ≡ conversion_numbers s (length old / 8)
  unfolding conversion_numbers
  stored_numbers old {r} is = by_room (bytes_fit (rewritten s) old) refl
    where
      by_room : (b : Bool) → bytes_fit (rewritten s) old ≡ b → numbers_of r ≡ conversion_numbers s (length old / 8)
      by_room true e = rw (is, e, fits old e) refl
      by_room false e = rw (is, e, too_few old e) refl

  pub stored_bytes :
      (old : List ℕ) {after : List ℕ} → after ≡ bytes_after (rewritten s) old → after ≡ bytes_for s old (conversion_verdict s (length old / 8))
  stored_bytes old {after} is = by_room (bytes_fit (rewritten s) old) refl
    where
      by_room : (b : Bool) → bytes_fit (rewritten s) old ≡ b → after ≡ bytes_for s old (conversion_verdict s (length old / 8))
      by_room true e = rw (fits old e) (is ∙ store_accepts (rewritten s) old e)
      by_room false e = rw (too_few old e) (is ∙ store_refuses (rewritten s) old e)

-- ---- a refusal of the words or of a weight

module _ (s : List ℕ) (r : Refusal) (refused : refused_by r ≡ conversion_numbers s word_limit) where
  anyway : (room : ℕ) → conversion_verdict s room ≡ Faulty r
  unfolding conversion_numbers
  anyway room = judged.refused_anyway s room r (refused_means r (length (rewritten s)) (conversion_verdict s word_limit) refused)

  pub refused_numbers : (room : ℕ) → refused_by r ≡ conversion_numbers s room
  unfolding conversion_numbers
  refused_numbers room = refused_when r (length (rewritten s)) (conversion_verdict s room) (anyway room)

  pub refused_bytes : (old : List ℕ) → old ≡ bytes_for s old (conversion_verdict s (length old / 8))
  refused_bytes old = rw (anyway (length old / 8)) refl

-- ---- a file

pub bad_length_refused :
    (file old : List ℕ) → good_length file ≡ false →
    (refused_by (record { number = 15; place = 0 }) ≡ file_numbers file (length old)) × (old ≡ bytes_converted file old)
unfolding file_numbers bytes_converted file_verdict
bad_length_refused file old bad = (rw bad refl, rw bad refl)

pub words_converted :
    (file old s : List ℕ) {numbers : Outcome ℕ} {after : List ℕ} → good_length file ≡ true → s ≡ file_words file →
    (numbers ≡ conversion_numbers s (length old / 8)) × (after ≡ bytes_for s old (conversion_verdict s (length old / 8))) →
    (numbers ≡ file_numbers file (length old)) × (after ≡ bytes_converted file old)
unfolding file_numbers bytes_converted file_verdict conversion_numbers
words_converted file old s good are both = rw good (rw are at both)
