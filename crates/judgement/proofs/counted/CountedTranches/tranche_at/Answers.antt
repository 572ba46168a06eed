-- `tranche_at` meets its contract: no place of the tranches is above `place_limit`. No axioms.
use mathlib.Core.Path.{◌≡◌}
use native.Mathlib.Omega.{arith}
use Rattle.judgement.specs.DealSheet.{tranches_at}
use Rattle.judgement.proofs.SheetLimits.{tranche_at_most}
use Rattle.judgement.proofs.counted.CountedTranches.tranche_at.Goals.{After-tranches_at}
use Rattle.judgement.proofs.counted.CountedTranches.tranche_at.Goals as goal

-- the counted pool is of the same words
same_place : (c : After-tranches_at) → c.tranches_at.result ≡ tranches_at c.args.self.words.now
same_place c = rw c.pool.ensures at c.tranches_at.ensures

pub overflow_add-result : goal.overflow_add-result
overflow_add-result c =
    omega (
      arith,
      same_place (goal.at.overflow_add-result c).After-tranches_at,
      tranche_at_most c.args.self.words.now c.args.i c.args.self.counted (omega arith),
    )

pub overflow_mul-result : goal.overflow_mul-result
overflow_mul-result c = omega (arith, tranche_at_most c.args.self.words.now c.args.i c.args.self.counted (omega arith))

pub overflow_add-result-2 : goal.overflow_add-result-2
overflow_add-result-2 c =
    omega (
      arith,
      same_place (goal.at.overflow_add-result-2 c).After-tranches_at,
      tranche_at_most c.args.self.words.now c.args.i c.args.self.counted (omega arith),
    )
