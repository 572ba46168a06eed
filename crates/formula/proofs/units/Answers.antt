-- `units`: long division by two digits of 16 bits. No axioms.
use native.Mathlib.Omega.{arith}
use Rattle.formula.specs.FixedPoint.{units}
use Rattle.series.proofs.Numbers.{long_division}
use Rattle.formula.proofs.units.Goals as goal

pub returns : goal.returns
unfolding units
returns c = long_division c.args.a c.args.b 65536 (omega arith)
