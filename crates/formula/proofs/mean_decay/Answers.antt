-- `mean_decay`: a decay's low end is at most 2^32, so that its distance from 2^32 + 1 is a number, and 2^27 times that fits 64 bits.
-- No axioms.
use mathlib.Core.Bool.{cond}
use mathlib.Core.Path.{◌≡◌, ap}
use Prim.Native.Nat.{◌^◌}
use native.Mathlib.Omega.{arith}
use lib.Dec.{ltb}
use borrow.Author.Tests.{lt-ltb, le-ltb}
use Rattle.numbers.specs.declared.Ends.{Ends}
use Rattle.numbers.proofs.Tests.{equal_keeps}
use Rattle.formula.specs.FixedPoint.{mean_decay_of_small, mean_decay_of_large, mean_decay_above}
use Rattle.formula.specs.StepEnds.{MeanDecayEnds}
use Rattle.formula.proofs.StepBounds.{decay_below_at_most}
use Rattle.formula.proofs.StepEndsLaw.{mean_decay_ends}
use Rattle.formula.proofs.mean_decay.Goals.{Joined-x-lt-SMALL, then-x-lt-SMALL, else-x-lt-SMALL}
use Rattle.formula.proofs.mean_decay.Goals as goal

pub overflow_sub-high-else-x-lt-SMALL : goal.overflow_sub-high-else-x-lt-SMALL
overflow_sub-high-else-x-lt-SMALL c =
    omega (arith, ap (λ (e : Ends). e.low) c.decay.ensures.value, decay_below_at_most c.args.x)

-- the high end before it is cut off at 1
high_is :
    (c : Joined-x-lt-SMALL) →
    let x = c.args.x in
    c.if-x-lt-SMALL.high ≡ cond (ltb x (2 ^ 23)) (mean_decay_of_small x) (mean_decay_of_large x)
unfolding mean_decay_of_small mean_decay_of_large
high_is c =
    elim c.if-x-lt-SMALL.branch [
      | then-x-lt-SMALL w ↦ simp (w.high-is, lt-ltb _ _ w.if-x-lt-SMALL.true)
      | else-x-lt-SMALL w ↦ simp (w.high-is, le-ltb _ _ w.if-x-lt-SMALL.false, ap (λ (e : Ends). e.low) w.decay.ensures.value)
    ]

pub returns-clause-value : goal.returns-clause-value
unfolding mean_decay_above
returns-clause-value c =
    simp (c.from_above.ensures, c.min.ensures, high_is (goal.at.returns-clause-value c).Joined-x-lt-SMALL)

pub returns-clause-mean_decay_ends : goal.returns-clause-mean_decay_ends
returns-clause-mean_decay_ends c =
    (equal_keeps (MeanDecayEnds c.args.x) (mean_decay_ends c.args.x) (returns-clause-value c)).1
