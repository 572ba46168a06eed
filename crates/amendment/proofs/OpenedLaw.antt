-- Whether a sheet and sums are an opened pool: by the sums that the sheet is opened to. No axioms.
use mathlib.Core.Bool.{Bool}
use mathlib.Core.List.{List}
use mathlib.Core.Path.{◌≡◌, refl, sym, ◌∙◌}
use Prim.Native.Nat.{ℕ}
use Rattle.std.specs.Result.{result_eq}
use Rattle.std.specs.Prelude.{Result, Ok, Err}
use Rattle.judgement.specs.Outcome.{found, numbers_of}
use Rattle.judgement.specs.Verdicts.{refusal_of}
use Rattle.judgement.specs.declared.Refusal.{Refusal as Declared}
use Rattle.charge.specs.declared.Sums.{Sums}
use Rattle.pool.specs.SummedPool.{OpenedPool, opened_numbers}
use Rattle.pool.proofs.SummedPoolLaw.{opened_means, refused_is_not_open}
use Rattle.amendment.proofs.SameSums.{tells_no}
use Rattle.amendment.specs.OpenedPool.{Tells}

-- by the sums afresh
told_by_sums : (s : List ℕ) (q afresh : Sums) {answer : Bool} → found afresh ≡ opened_numbers s → Tells answer (q ≡ afresh) → Tells answer (OpenedPool s q)
told_by_sums s q afresh e told =
    let opened = opened_means s afresh e in
    record {
      yes = λ is. record { sound = opened.sound; is_layout = refl; are_sums = told.yes is ∙ opened.are_sums };
      no = λ is pool. told.no is (pool.are_sums ∙ sym opened.are_sums);
    }

-- by what the sheet is opened to, where `same` tells whether two sums are one
pub told_by_answer :
    (s : List ℕ) (q : Sums) (same : Sums → Sums → Bool) (other : Declared → Declared → Bool) (v : Result Sums Declared) {answer : Bool} →
    ((a b : Sums) → Tells (same a b) (b ≡ a)) → numbers_of v ≡ opened_numbers s → answer ≡ result_eq same other v (Ok q) → Tells answer (OpenedPool s q)
told_by_answer s q same other (Ok afresh) tells e is = rw is (told_by_sums s q afresh e (tells afresh q))
told_by_answer s q same other (Err r) tells e is = rw is (tells_no (λ pool. refused_is_not_open s q (refusal_of r) e pool))
