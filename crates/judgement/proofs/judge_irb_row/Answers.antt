-- `judge_irb_row`: before each turn the words before the row's column are sound. No axioms.
use mathlib.Core.Path.{◌≡◌, ◌∙◌, sym}
use Prim.Native.Nat.{◌+◌}
use native.Mathlib.Omega.{arith}
use Rattle.faults.specs.Reasons.{fault_number}
use Rattle.judgement.specs.DealSheet.{irb_place, needed}
use Rattle.judgement.specs.Refusals.{fault}
use Rattle.judgement.proofs.Judgement.{fault_of_irb}
use Rattle.judgement.proofs.NeededLaws.{needed_is, irb_words_lem}
use Rattle.judgement.proofs.SheetLimits.{irb_at_most}
use Rattle.judgement.proofs.JudgeSteps.{sound_before, handed_on, word_sound, word_refused}
use Rattle.judgement.proofs.judge_irb_row.Goals.{After-irb_fault, Start}
use Rattle.judgement.proofs.judge_irb_row.Goals as goal

-- a column's fault is that of its word
column_is : (c : After-irb_fault) → fault c.args.sheet.words.now (irb_place c.args.sheet.words.now c.loop-column.column) ≡ fault_number c.irb_fault.result
column_is c =
    fault_of_irb _ c.loop-column.column (omega arith) ∙
    simp (
      c.irb_fault.ensures,
      c.word_at.ensures,
      c.irb_at-at.ensures,
      c.word_at-kind.ensures,
    )

-- the section's last word is the last that the sheet needs
ends : (c : Start) → needed c.args.sheet.words.now ≡ irb_place c.args.sheet.words.now 6
ends c = let s = c.args.sheet.words.now in omega (arith, needed_is s, irb_words_lem s c.requires.1)

pub overflow_add-at : goal.overflow_add-at
overflow_add-at c =
    omega (arith, c.irb_at-at.ensures, irb_at_most c.args.sheet.words.now c.args.sheet.counted)

pub overflow_add-p : goal.overflow_add-p
overflow_add-p c =
    omega (arith, c.irb_at-at.ensures, irb_at_most c.args.sheet.words.now c.args.sheet.counted)

pub returns-in_err-judge_word : goal.returns-in_err-judge_word
returns-in_err-judge_word c =
    word_refused _ (irb_place c.args.sheet.words.now c.loop-column.column) _ c.loop-column.invariant
    (column_is (goal.at.returns-in_err-judge_word c).After-irb_fault) (handed_on c.from_residual.ensures.1)
    (rw c.irb_at-at.ensures at c.in_err-judge_word.ensures) (omega (arith, ends (goal.at.returns-in_err-judge_word c).Start))

pub loop-column-preserved : goal.loop-column-preserved
loop-column-preserved c =
    sound_before _ _ (irb_place c.args.sheet.words.now c.loop-column.column + 1)
    (word_sound _ (irb_place c.args.sheet.words.now c.loop-column.column) c.loop-column.invariant
    (column_is (goal.at.loop-column-preserved c).After-irb_fault) (rw c.irb_at-at.ensures at c.in_ok-judge_word.ensures))
    (omega arith)

pub returns : goal.returns
returns c =
    sym (sound_before _ _ _ c.loop-column.invariant (omega (arith, ends (goal.at.returns c).Start)))
