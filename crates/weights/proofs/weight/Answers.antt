-- `weight`: by the formula the second promise follows from the first. No axioms.
use Rattle.std.proofs.Common.{rules}
use Rattle.weights.specs.ApproachFloorCap.{weight}
use Rattle.weights.proofs.WeightLaws.{weight_by_formula}
use Rattle.weights.proofs.weight.Goals as goal

pub returns-in_default-clause-weight_by_formula : goal.returns-in_default-clause-weight_by_formula
unfolding weight
returns-in_default-clause-weight_by_formula c = weight_by_formula c.args.t c.args.d (search rules)
