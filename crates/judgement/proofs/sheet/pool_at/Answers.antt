-- `pool_at` meets its contract: where the count of facts is good, it is small. No axioms.
use native.Mathlib.Omega.{arith}
use Rattle.judgement.specs.DealSheet.{pool_at}
use Rattle.judgement.proofs.SheetLimits.{facts_within}
use Rattle.judgement.proofs.sheet.pool_at.Goals as goal

pub overflow_add-result : goal.overflow_add-result
overflow_add-result c = omega (arith, facts_within c.args.s.now c.requires)

pub returns : goal.returns
unfolding pool_at
returns c = omega arith
