-- `product`: a decay of at most 2^32 times a mean decay of at most 2^27 fits 64 bits. No axioms.
use mathlib.Core.Path.{◌≡◌, ap}
use Prim.Native.Nat.{ℕ, ◌+◌, ◌*◌, ◌-◌, ◌/◌, ◌%◌, ◌^◌, min}
use native.Mathlib.Omega.{arith}
use Rattle.numbers.specs.declared.Ends.{Ends}
use Rattle.numbers.proofs.Tests.{equal_keeps}
use Rattle.formula.specs.FixedPoint.{decay_above, mean_decay_above, product_above}
use Rattle.formula.specs.StepEnds.{ProductEnds}
use Rattle.formula.proofs.StepBounds.{decay_and_mean_at_most}
use Rattle.formula.proofs.StepEndsLaw.{product_ends}
use Rattle.formula.proofs.product.Goals.{After-mean_decay-second}
use Rattle.formula.proofs.product.Goals as goal

-- the high ends of the two factors
first_is : (c : After-mean_decay-second) → c.decay-first.result.high ≡ decay_above c.args.l
first_is c = ap (λ (e : Ends). e.high) c.decay-first.ensures.value

second_is : (c : After-mean_decay-second) → c.mean_decay-second.result.high ≡ mean_decay_above c.args.x
second_is c = ap (λ (e : Ends). e.high) c.mean_decay-second.ensures.value

pub overflow_mul-first : goal.overflow_mul-first
overflow_mul-first c =
    let at = (goal.at.overflow_mul-first c).After-mean_decay-second in
    rw (first_is at, second_is at) (omega (arith, decay_and_mean_at_most c.args.l c.args.x))

-- a quotient rounded up
up : (x : ℕ) → x / 2 ^ 32 + min 1 (x % 2 ^ 32) ≡ (x + (2 ^ 32 - 1)) / 2 ^ 32
up x = omega arith

pub returns-clause-value : goal.returns-clause-value
unfolding product_above
returns-clause-value c =
    let at = (goal.at.returns-clause-value c).After-mean_decay-second in
    simp (c.from_above.ensures, c.div_ceil.ensures, first_is at, second_is at, up (decay_above c.args.l * mean_decay_above c.args.x))

pub returns-clause-product_ends : goal.returns-clause-product_ends
returns-clause-product_ends c =
    (equal_keeps (ProductEnds c.args.l c.args.x) (product_ends c.args.l c.args.x) (returns-clause-value c)).1
