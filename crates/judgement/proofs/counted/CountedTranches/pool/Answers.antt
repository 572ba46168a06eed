-- `pool`: the pool's count is before that of the tranches. No axioms.
use Rattle.judgement.proofs.SheetLimits.{pool_counted_before}
use Rattle.judgement.proofs.counted.CountedTranches.pool.Goals as goal

pub invariant_of-result : goal.invariant_of-result
invariant_of-result c = record { counted = pool_counted_before _ c.args.self.counted }
