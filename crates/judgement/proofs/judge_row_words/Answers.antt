-- `judge_row_words`: before each turn the words before the row's column are sound. No axioms.
use mathlib.Core.Path.{◌≡◌, ◌∙◌}
use Prim.Native.Nat.{◌+◌}
use native.Mathlib.Omega.{arith}
use Rattle.faults.specs.Reasons.{fault_number}
use Rattle.judgement.specs.DealSheet.{row_at}
use Rattle.judgement.specs.Refusals.{fault}
use Rattle.judgement.proofs.Judgement.{fault_of_row}
use Rattle.judgement.proofs.SheetLimits.{row_at_most}
use Rattle.judgement.proofs.JudgeSteps.{sound_before, handed_on, word_sound, word_refused}
use Rattle.judgement.proofs.judge_row_words.Goals.{After-row_fault}
use Rattle.judgement.proofs.judge_row_words.Goals as goal

-- a column's fault is that of its word
column_is : (c : After-row_fault) → fault c.args.pool.words.now (row_at c.args.pool.words.now c.args.i + c.loop-column.column) ≡ fault_number c.row_fault.result
column_is c =
    fault_of_row _ _ c.loop-column.column (omega arith) (omega arith) ∙
    simp (
      c.row_fault.ensures,
      c.word_at.ensures,
      c.row_at-at.ensures,
      c.in_hundredths-hundredths.ensures,
      c.word_at-resecuritised.ensures,
    )

pub overflow_add-p : goal.overflow_add-p
overflow_add-p c =
    let s = c.args.pool.words.now in
    omega (arith, row_at_most s c.args.i c.args.pool.counted (omega arith))

pub returns-in_err-judge_word : goal.returns-in_err-judge_word
returns-in_err-judge_word c =
    word_refused _ (row_at c.args.pool.words.now c.args.i + c.loop-column.column) _ c.loop-column.invariant
    (column_is (goal.at.returns-in_err-judge_word c).After-row_fault) (handed_on c.from_residual.ensures.1)
    (rw c.row_at-at.ensures at c.in_err-judge_word.ensures) (omega arith)

pub loop-column-preserved : goal.loop-column-preserved
loop-column-preserved c =
    sound_before _ _ (row_at c.args.pool.words.now c.args.i + c.loop-column.column + 1)
    (word_sound _ (row_at c.args.pool.words.now c.args.i + c.loop-column.column) c.loop-column.invariant
    (column_is (goal.at.loop-column-preserved c).After-row_fault) (rw c.row_at-at.ensures at c.in_ok-judge_word.ensures))
    (omega arith)
