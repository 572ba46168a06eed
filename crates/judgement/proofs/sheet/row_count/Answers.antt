-- `row_count` meets its contract. No axioms.
use Rattle.judgement.specs.DealSheet.{rows}
use Rattle.judgement.proofs.sheet.row_count.Goals as goal

pub returns : goal.returns
unfolding rows
returns c = simp (c.word_at.ensures, c.pool_at.ensures)
