-- `class_before`: the place of the class of the tranche before. No axioms.
use native.Mathlib.Omega.{arith}
use Rattle.judgement.proofs.SheetLimits.{tranche_at_most}
use Rattle.judgement.proofs.counted.CountedTranches.class_before.Goals as goal

pub overflow_add-tranche_at : goal.overflow_add-tranche_at
overflow_add-tranche_at c =
    omega (arith, tranche_at_most c.args.self.words.now c.saturating_sub.result c.args.self.counted (omega arith))
