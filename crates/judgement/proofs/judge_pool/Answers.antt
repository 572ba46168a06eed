-- `judge_pool`: a fault of the facts or of the count stays, and before each turn the words before row i are sound. No
-- axioms.
use mathlib.Core.Path.{sym}
use native.Mathlib.Omega.{arith}
use Rattle.judgement.proofs.NeededLaws.{tranches_at_past_rows}
use Rattle.judgement.proofs.JudgeSteps.{sound_before, handed_on, refusal_stays}
use Rattle.judgement.proofs.judge_pool.Goals as goal

pub returns-in_err-judge_pool_count : goal.returns-in_err-judge_pool_count
returns-in_err-judge_pool_count c =
    refusal_stays _ _ _ (handed_on c.from_residual.ensures.1) c.in_err-judge_pool_count.ensures
    (omega (arith, tranches_at_past_rows c.args.s.now))

pub row_count-i-end-requires : goal.row_count-i-end-requires
row_count-i-end-requires c = sound_before _ _ _ (sym c.in_ok-judge_pool_count.ensures) (omega arith)

pub returns-in_err-judge_row : goal.returns-in_err-judge_row
returns-in_err-judge_row c =
    refusal_stays _ _ _ (handed_on c.from_residual-in_err-judge_row.ensures.1) c.in_err-judge_row.ensures
    (omega (arith, tranches_at_past_rows c.args.s.now))

pub returns : goal.returns
returns c = sym (sound_before _ _ _ c.loop-i.invariant (omega (arith, tranches_at_past_rows c.args.s.now)))
