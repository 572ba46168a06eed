-- `judge_words`: a fault of a needed word decides, and where they are sound the test of words that follow. No axioms.
use mathlib.Core.List.{List}
use mathlib.Core.Path.{◌≡◌, ◌∙◌, sym, ap}
use Prim.Native.Nat.{ℕ, ◌≤◌, ◌<◌}
use native.Mathlib.Omega.{arith}
use lib.ListN.{length}
use borrow.Author.Tests.{le-ltb, lt-ltb}
use Rattle.judgement.specs.DealSheet.{needed, layout}
use Rattle.judgement.specs.Outcome.{found, refused_by, numbers_of}
use Rattle.judgement.specs.Refusals.{judged, words_verdict, words_numbers}
use Rattle.judgement.specs.declared.Layout.{Layout}
use Rattle.judgement.specs.Verdicts.{Refusal, Sound, Faulty}
use Rattle.judgement.proofs.SheetLimits.{tranches_counted}
use Rattle.judgement.proofs.JudgeSteps.{handed_on}
use Rattle.judgement.proofs.WordsLaw.{numbers_mean}
use Rattle.judgement.proofs.judge_words.Goals as goal

faulty_words : (s : List ℕ) (r : Refusal) → Faulty r ≡ judged s (needed s) → refused_by r ≡ words_numbers s
unfolding words_numbers words_verdict
faulty_words s r is = simp (sym is)

more_words : (s : List ℕ) (end : ℕ) → judged s (needed s) ≡ Sound → end ≡ needed s → needed s < length s → refused_by (record { number = 3; place = end }) ≡ words_numbers s
unfolding words_numbers words_verdict
more_words s end sound is more = simp (sound, lt-ltb (needed s) (length s) more, is)

good_words : (s : List ℕ) (l : Layout) → judged s (needed s) ≡ Sound → length s ≤ needed s → l ≡ layout s → found l ≡ words_numbers s
unfolding words_numbers words_verdict
good_words s l sound none is = simp (sound, le-ltb (needed s) (length s) none, is)

pub returns-in_err-judge_needed-clause-result_value : goal.returns-in_err-judge_needed-clause-result_value
returns-in_err-judge_needed-clause-result_value c =
    ap numbers_of (handed_on c.from_residual.ensures.1) ∙ faulty_words c.args.s.now _ c.in_err-judge_needed.ensures

pub returns-in_err-judge_needed-clause-numbers_mean : goal.returns-in_err-judge_needed-clause-numbers_mean
returns-in_err-judge_needed-clause-numbers_mean c = numbers_mean _ _ (returns-in_err-judge_needed-clause-result_value c)

pub invariant_of-sheet : goal.invariant_of-sheet
invariant_of-sheet c = record { counted = tranches_counted _ (sym c.in_ok-judge_needed.ensures) }

pub returns-then-end-s-clause-result_value : goal.returns-then-end-s-clause-result_value
returns-then-end-s-clause-result_value c =
    more_words c.args.s.now _ (sym c.in_ok-judge_needed.ensures) c.end-end.ensures (omega (arith, c.end-end.ensures))

pub returns-then-end-s-clause-numbers_mean : goal.returns-then-end-s-clause-numbers_mean
returns-then-end-s-clause-numbers_mean c = numbers_mean _ _ (returns-then-end-s-clause-result_value c)

pub returns-clause-result_value : goal.returns-clause-result_value
returns-clause-result_value c =
    good_words c.args.s.now _ (sym c.in_ok-judge_needed.ensures) (omega (arith, c.end-end.ensures)) c.layout_of-layout.ensures

pub returns-clause-numbers_mean : goal.returns-clause-numbers_mean
returns-clause-numbers_mean c = numbers_mean _ _ (returns-clause-result_value c)
