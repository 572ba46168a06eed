-- `judge_tranche_count`: a fault up to the pool stays, and after a sound pool the count's verdict decides. No axioms.
use mathlib.Core.Path.{◌∙◌, sym}
use native.Mathlib.Omega.{arith}
use Rattle.judgement.proofs.NeededLaws.{tranches_at_past_rows}
use Rattle.judgement.proofs.Judgement.{fault_of_tranche_count}
use Rattle.judgement.proofs.JudgeSteps.{sound_before, word_judged, handed_on, refusal_stays}
use Rattle.judgement.proofs.judge_tranche_count.Goals as goal

pub returns-in_err-judge_pool : goal.returns-in_err-judge_pool
returns-in_err-judge_pool c = refusal_stays _ _ _ (handed_on c.from_residual.ensures.1) c.in_err-judge_pool.ensures (omega arith)

pub invariant_of-pool : goal.invariant_of-pool
invariant_of-pool c =
    record { counted = sound_before _ _ _ (sym c.in_ok-judge_pool.ensures) (omega (arith, tranches_at_past_rows c.args.s.now)) }

pub returns : goal.returns
returns c =
    word_judged _ _ (sym c.in_ok-judge_pool.ensures) (fault_of_tranche_count _)
    (c.judge_word.ensures ∙
    simp (
      c.count_fault.ensures,
      c.tranche_count.ensures,
      c.tranches_at.ensures,
    ))
