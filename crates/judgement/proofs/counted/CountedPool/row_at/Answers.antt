-- `row_at` meets its contract: no place of the pool is above `place_limit`. No axioms.
use native.Mathlib.Omega.{arith}
use Rattle.judgement.proofs.SheetLimits.{facts_counted_before, row_at_most}
use Rattle.judgement.proofs.counted.CountedPool.row_at.Goals as goal

pub pool_at-requires : goal.pool_at-requires
pool_at-requires c = facts_counted_before c.args.self.words.now c.args.self.counted

pub overflow_add-result : goal.overflow_add-result
overflow_add-result c = omega (arith, row_at_most c.args.self.words.now c.args.i c.args.self.counted (omega arith))

pub overflow_mul-result : goal.overflow_mul-result
overflow_mul-result c = omega (arith, row_at_most c.args.self.words.now c.args.i c.args.self.counted (omega arith))

pub overflow_add-result-2 : goal.overflow_add-result-2
overflow_add-result-2 c = omega (arith, row_at_most c.args.self.words.now c.args.i c.args.self.counted (omega arith))
