-- `judge_row`: a row that is there whole and passes the one test is sound; any other is judged word by word. No axioms.
use mathlib.Core.Path.{sym}
use native.Mathlib.Omega.{arith}
use Rattle.judgement.proofs.SheetLimits.{row_at_most}
use Rattle.judgement.proofs.GoodRowLaw.{good_row_judged}
use Rattle.judgement.proofs.judge_row.Goals as goal

pub overflow_add-at : goal.overflow_add-at
overflow_add-at c =
    let s = c.args.pool.words.now in
    omega (arith, c.row_at-at.ensures, row_at_most s c.args.i c.args.pool.counted (omega arith))

pub returns-then-row_is_good : goal.returns-then-row_is_good
returns-then-row_is_good c =
    sym
    (good_row_judged c.args.pool.words.now c.args.i c.requires.0 c.requires.1
    (omega (arith, c.row_at-at.ensures))
    (rw (c.row_at-at.ensures, c.in_hundredths-hundredths.ensures, c.word_at-resecuritised.ensures) at c.row_is_good.ensures)
    c.if-row_is_good.true)
