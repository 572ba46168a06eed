-- `judge_tranches`: a fault up to the tranches' count stays, and before each turn the words before tranche i are sound.
-- No axioms.
use mathlib.Core.Path.{sym}
use native.Mathlib.Omega.{arith}
use Rattle.judgement.proofs.JudgeSteps.{sound_before, handed_on, refusal_stays}
use Rattle.judgement.proofs.judge_tranches.Goals as goal

pub returns-in_err-judge_tranche_count : goal.returns-in_err-judge_tranche_count
returns-in_err-judge_tranche_count c =
    refusal_stays _ _ _ (handed_on c.from_residual.ensures.1) c.in_err-judge_tranche_count.ensures (omega arith)

pub returns-in_err-judge_tranche : goal.returns-in_err-judge_tranche
returns-in_err-judge_tranche c =
    refusal_stays _ _ _ (handed_on c.from_residual-in_err-judge_tranche.ensures.1) c.in_err-judge_tranche.ensures (omega arith)

pub returns : goal.returns
returns c = sym (sound_before _ _ _ c.loop-i.invariant (omega arith))
