-- What the words of a sheet are found to be is settled by its numbers, and these mean what they should. No axioms.
use Rattle.std.specs.Prelude.{Result, Ok, Err}
use mathlib.Core.List.{List}
use mathlib.Core.Path.{◌≡◌, sym, ap, ◌∙◌}
use Prim.Native.Nat.{ℕ}
use Rattle.judgement.specs.DealSheet.{layout}
use Rattle.judgement.specs.Outcome.{Outcome, found, refused_by, numbers_of}
use Rattle.judgement.specs.Refusals.{words_verdict, words_numbers}
use Rattle.judgement.specs.Judged.{NumbersMean}
use Rattle.judgement.specs.LaidOut.{LaidOut}
use Rattle.judgement.specs.declared.Layout.{Layout}
use Rattle.judgement.specs.declared.Refusal.{Refusal as DeclaredRefusal}
use Rattle.judgement.specs.Verdicts.{Refusal, Sound, Faulty, refusal_of}
use Rattle.judgement.proofs.JudgeSteps.{needed_sound}
use Rattle.judgement.proofs.JudgedLaws.{words_refused, words_accepted}
use Rattle.judgement.proofs.OutcomeLaws.{answer_of_numbers, found_means, refused_means}

pub words_settled : (v w : Result Layout DeclaredRefusal) → numbers_of v ≡ numbers_of w → v ≡ w
words_settled v w e = answer_of_numbers v w e

-- ---- the verdict and the layout from the numbers

pub good_numbers : (s : List ℕ) (l : Layout) → found l ≡ words_numbers s → (words_verdict s ≡ Sound) × (l ≡ layout s)
unfolding words_numbers
good_numbers s l e = found_means l (layout s) (words_verdict s) e

pub bad_numbers : (s : List ℕ) (r : Refusal) → refused_by r ≡ words_numbers s → words_verdict s ≡ Faulty r
unfolding words_numbers
bad_numbers s r e = refused_means r (layout s) (words_verdict s) e

-- what `judge_words` found, by each case

pub good_words : (s : List ℕ) (w : Result Layout DeclaredRefusal) (l : Layout) → numbers_of w ≡ words_numbers s → w ≡ Ok l → (words_verdict s ≡ Sound) × (l ≡ layout s)
good_words s w l e is = good_numbers s l (sym (ap numbers_of is) ∙ e)

pub bad_words : (s : List ℕ) (w : Result Layout DeclaredRefusal) (r : DeclaredRefusal) → numbers_of w ≡ words_numbers s → w ≡ Err r → words_verdict s ≡ Faulty (refusal_of r)
bad_words s w r e is = bad_numbers s (refusal_of r) (sym (ap numbers_of is) ∙ e)

-- whatever is found good is good, and its layout is the sheet's
pub laid_out : (s : List ℕ) (l : Layout) → words_verdict s ≡ Sound → l ≡ layout s → LaidOut s l
laid_out s l sound is = record { good = needed_sound s sound; is_layout = is }

-- ---- whatever numbers equal those of the words mean what they should

pub numbers_mean : (s : List ℕ) (n : Outcome Layout) → n ≡ words_numbers s → NumbersMean s n
numbers_mean s n e = record {
  refused_as = λ r is. words_refused s r (bad_numbers s r (sym is ∙ e));
  good_with = λ l is.
      let both = good_numbers s l (sym is ∙ e) in
      (words_accepted s both.0, both.1);
}
