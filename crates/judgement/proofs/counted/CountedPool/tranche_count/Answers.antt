-- `tranche_count` meets its contract. No axioms.
use Rattle.judgement.specs.DealSheet.{tranche_count}
use Rattle.judgement.proofs.counted.CountedPool.tranche_count.Goals as goal

pub returns : goal.returns
unfolding tranche_count
returns c = simp (c.word_at.ensures, c.tranches_at.ensures)
