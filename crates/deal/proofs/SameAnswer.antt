-- Two sheets whose words are good, with as many tranches at the same places, whose charge is the same and whose tranches are thin alike and have the same lines, get the
-- same answer and leave the same results. No axioms.
use mathlib.Core.List.{List}
use mathlib.Core.Path.{◌≡◌, refl}
use Prim.Native.Nat.{ℕ, ◌<◌}
use lib.ListN.{length}
use Rattle.judgement.specs.DealSheet.{tranches_at, tranche_count}
use Rattle.judgement.specs.Refusals.{first_of, words_verdict}
use Rattle.judgement.specs.Verdicts.{Verdict, Sound, Faulty}
use Rattle.judgement.proofs.FirstFault.{first_of_same}
use Rattle.weights.specs.ApproachFloorCap.{thin}
use Rattle.deal.specs.Lines.{terms, tranche, line_words}
use Rattle.deal.specs.Refusals.{thin_verdict, verdict}
use Rattle.deal.specs.Results.{reply_to, reply_for, results_for, results_after}
use Rattle.deal.specs.SameAnswer.{SameAnswer}
use Rattle.deal.proofs.LineLaws.{lines_alike}

pub record Alike (s s' : List ℕ) : Type 0 where
  pub words : words_verdict s ≡ Sound
  pub words' : words_verdict s' ≡ Sound
  pub place : tranches_at s' ≡ tranches_at s
  pub count : tranche_count s' ≡ tranche_count s
  pub charge : (terms s').charge ≡ (terms s).charge
  pub thin_alike : (i : ℕ) → i < tranche_count s → thin (tranche s' i) (terms s') ≡ thin (tranche s i) (terms s)
  pub line_alike : (i : ℕ) → i < tranche_count s → line_words (tranche s' i) (terms s') ≡ line_words (tranche s i) (terms s)

module _ (s s' : List ℕ) (a : Alike s s') where
  same_thin : first_of (λ i. thin_verdict s' i) (tranche_count s) ≡ first_of (λ i. thin_verdict s i) (tranche_count s)
  same_thin =
      first_of_same (λ i. thin_verdict s' i) (λ i. thin_verdict s i) (tranche_count s)
      (λ i l. rw (a.thin_alike i l, a.place))

  same_verdict : (room : ℕ) → verdict s' room ≡ verdict s room
  unfolding verdict
  same_verdict room = rw (a.words', a.words, a.count, same_thin)

  reply_same : (v : Verdict) → reply_for s' v ≡ reply_for s v
  reply_same Sound = rw (a.count, a.charge)
  reply_same (Faulty q) = refl

  results_same : (old : List ℕ) (v : Verdict) → results_for s' old v ≡ results_for s old v
  results_same old Sound = rw (a.count, lines_alike s s' (tranche_count s) a.line_alike)
  results_same old (Faulty q) = refl

  pub same_answer : SameAnswer s s'
  unfolding reply_to results_after
  same_answer = record {
    same_reply = λ room. rw (same_verdict room) (reply_same (verdict s room));
    same_results = λ old. rw (same_verdict (length old)) (results_same old (verdict s (length old)));
  }
