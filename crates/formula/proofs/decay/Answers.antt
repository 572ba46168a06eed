-- `decay`: the product of a coarse and a fine decay fits 64 bits, and so does its low end with the distance added. No axioms.
use mathlib.Core.Path.{◌≡◌}
use Prim.Native.Nat.{◌*◌, ◌/◌, ◌%◌, ◌^◌}
use native.Mathlib.Omega.{arith}
use Rattle.numbers.proofs.Tests.{equal_keeps}
use Rattle.formula.specs.FixedPoint.{decay_below, decay_above}
use Rattle.formula.specs.StepEnds.{DecayEnds}
use Rattle.formula.proofs.StepBounds.{decays_at_most, decay_below_at_most}
use Rattle.formula.proofs.StepEndsLaw.{decay_ends}
use Rattle.formula.proofs.decay.Goals.{After-coarse_decay}
use Rattle.formula.proofs.decay.Goals as goal

-- the low end
low_is :
    (c : After-coarse_decay) →
    c.coarse_decay.result * c.fine_decay-fine.result / 2 ^ 32 ≡ decay_below c.args.x
unfolding decay_below
low_is c = simp (c.coarse_decay.ensures, c.fine_decay-fine.ensures)

pub overflow_mul-low : goal.overflow_mul-low
overflow_mul-low c =
    let x = c.args.x in
    simp (c.coarse_decay.ensures, c.fine_decay-fine.ensures)
    (omega (arith, decays_at_most (x / 2 ^ 28) (x % 2 ^ 28 / 2 ^ 22) (x % 2 ^ 28 % 2 ^ 22)))

pub overflow_add-low : goal.overflow_add-low
overflow_add-low c = omega (arith, low_is (goal.at.overflow_add-low c).After-coarse_decay, decay_below_at_most c.args.x)

pub returns-clause-value : goal.returns-clause-value
unfolding decay_above
returns-clause-value c = simp (c.min.ensures, low_is (goal.at.returns-clause-value c).After-coarse_decay)

pub returns-clause-decay_ends : goal.returns-clause-decay_ends
returns-clause-decay_ends c = (equal_keeps (DecayEnds c.args.x) (decay_ends c.args.x) (returns-clause-value c)).1
