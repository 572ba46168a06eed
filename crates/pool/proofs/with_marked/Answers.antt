-- `with_marked`: a late nominal of at most 10^10 a row, so nothing wraps. No axioms.
use native.Mathlib.Omega.{arith}
use Rattle.pool.proofs.PoolLaws.{row_limits}
use Rattle.pool.proofs.with_marked.Goals as goal

pub overflow_add-result : goal.overflow_add-result
overflow_add-result c =
    let row = c.args.row in
    omega (arith, c.requires.late_most, c.nominal.ensures, row_limits row.sheet.now.words.now row.sheet.now.laid_out.good row.number row.there)
