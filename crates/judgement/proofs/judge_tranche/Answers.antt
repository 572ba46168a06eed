-- `judge_tranche`: before each turn the words before the tranche's column are sound. No axioms.
use mathlib.Core.Path.{◌≡◌, ◌∙◌}
use Prim.Native.Nat.{◌+◌}
use native.Mathlib.Omega.{arith}
use Rattle.faults.specs.Reasons.{fault_number}
use Rattle.judgement.specs.DealSheet.{tranche_at}
use Rattle.judgement.specs.Refusals.{fault}
use Rattle.judgement.proofs.Judgement.{fault_of_tranche}
use Rattle.judgement.proofs.SheetLimits.{tranche_at_most}
use Rattle.judgement.proofs.JudgeSteps.{sound_before, handed_on, word_sound, word_refused}
use Rattle.judgement.proofs.judge_tranche.Goals.{After-tranche_fault}
use Rattle.judgement.proofs.judge_tranche.Goals as goal

-- a column's fault is that of its word
column_is : (c : After-tranche_fault) → fault c.args.sheet.words.now (tranche_at c.args.sheet.words.now c.args.i + c.loop-column.column) ≡ fault_number c.tranche_fault.result
column_is c =
    fault_of_tranche _ _ c.loop-column.column (omega arith) (omega arith) ∙
    simp (
      c.tranche_fault.ensures,
      c.word_at.ensures,
      c.word_at-amount.ensures,
      c.class_before-before.ensures,
      c.tranche_at-at.ensures,
      c.fact_at-reporting_date.ensures,
    )

pub overflow_add-p : goal.overflow_add-p
overflow_add-p c =
    let s = c.args.sheet.words.now in
    omega (arith, tranche_at_most s c.args.i c.args.sheet.counted (omega arith))

pub returns-in_err-judge_word : goal.returns-in_err-judge_word
returns-in_err-judge_word c =
    word_refused _ (tranche_at c.args.sheet.words.now c.args.i + c.loop-column.column) _ c.loop-column.invariant
    (column_is (goal.at.returns-in_err-judge_word c).After-tranche_fault) (handed_on c.from_residual.ensures.1)
    (rw c.tranche_at-at.ensures at c.in_err-judge_word.ensures) (omega arith)

pub loop-column-preserved : goal.loop-column-preserved
loop-column-preserved c =
    sound_before _ _ (tranche_at c.args.sheet.words.now c.args.i + c.loop-column.column + 1)
    (word_sound _ (tranche_at c.args.sheet.words.now c.args.i + c.loop-column.column) c.loop-column.invariant
    (column_is (goal.at.loop-column-preserved c).After-tranche_fault) (rw c.tranche_at-at.ensures at c.in_ok-judge_word.ensures))
    (omega arith)
