-- `is_opened`: the sheet is opened afresh, and the sums are held to those found. No axioms.
use Rattle.amendment.proofs.SameSums.{told_same}
use Rattle.amendment.proofs.OpenedLaw.{told_by_answer}
use Rattle.amendment.proofs.is_opened.Goals as goal

pub returns : goal.returns
returns c = told_by_answer c.args.sheet.now c.args.sums _ _ c.open_pool.result told_same c.open_pool.ensures c.eq.ensures
