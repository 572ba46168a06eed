-- `formula_weight`: the exponents' divisor is within the limits of `units`, what is divided last fits 64 bits, and the low numerator is the high one less what is subtracted. No axioms.
use mathlib.Core.Path.{◌≡◌, ap, ◌∙◌}
use Prim.Native.Nat.{ℕ, ◌+◌, ◌*◌, ◌-◌, ◌/◌, ◌^◌, max, ◌≤◌}
use native.Mathlib.Omega.{arith}
use Rattle.numbers.specs.Rounding.{rounded_up}
use Rattle.numbers.specs.declared.Ends.{Ends}
use Rattle.formula.specs.FixedPoint.{product_distance, formula_product, weight_numerator, formula_weight}
use Rattle.formula.proofs.StepBounds.{sum_at_most, product_above_at_most, less_at_most}
use Rattle.formula.proofs.formula_weight.Goals.{After-saturating_sub-2, After-product-ends}
use Rattle.formula.proofs.formula_weight.Goals as goal

-- the high numerator less what the product's ends are apart is the low one
numerator_less : (t v P Q : ℕ) → Q ≤ P → 125000 * (t + v * P) - 125000 * (v * (P - Q)) ≡ 125000 * (t + v * Q)
numerator_less t v P Q h = core (P - Q) (omega arith)
  where
    core : (g : ℕ) → Q + g ≡ P → 125000 * (t + v * P) - 125000 * (v * g) ≡ 125000 * (t + v * Q)
    core g e = omega (arith, ap (λ (x : ℕ). v * x) e)

-- both numbers of the weight, from what the calls promise of them
made :
    (A D K p : ℕ) (e : Ends) {top less bottom low high : ℕ} → e ≡ formula_product A D K p → e.low ≤ e.high → top ≡ weight_numerator A D K e.high →
    less ≡ 125000 * ((D - max A K) * (e.high - e.low)) → bottom ≡ (D - A) * 2 ^ 27 → low ≡ (top - less) / bottom → high ≡ rounded_up top bottom →
    record { low = low; high = high } ≡ formula_weight A D K p
unfolding weight_numerator formula_weight
made A D K p e is ordered top less bottom low high =
    let numerator = numerator_less ((K - A) * 2 ^ 27) (D - max A K) e.high e.low ordered in
    rw (low, high, top, less, bottom, numerator, is)

-- the product's ends: the high one is at most 2^27, the low one is not above it, and at most product_distance below
product_within : (c : After-product-ends) →
    let ends = c.product-ends.result in
    (ends.high ≤ 2 ^ 27) × (ends.low ≤ ends.high) × (ends.high ≤ ends.low + product_distance)
product_within c =
    rw c.product-ends.ensures.value (product_above_at_most _ _, omega arith, omega arith)

-- max(K − A, 0) + v × product, in units of 2^−27, is at most D − A
sum : (c : After-saturating_sub-2) →
    let x = c.args in
    c.saturating_sub-2.result * 2 ^ 27 + (x.d - c.max.result) * c.product-ends.result.high ≤ (x.d - x.a) * 2 ^ 27
sum c =
    let x = c.args in
    rw (c.saturating_sub-2.ensures, c.max.ensures)
    (sum_at_most x.a x.d x.k c.product-ends.result.high c.requires.0 c.requires.1 (product_within c.before).0)

-- what is subtracted for the low number is at most the numerator, and at most the divisor
less : (c : After-saturating_sub-2) →
    let x = c.args in
    let ends = c.product-ends.result in
    let v = x.d - c.max.result in
    (125000 * (v * (ends.high - ends.low)) ≤ 125000 * (c.saturating_sub-2.result * 2 ^ 27 + v * ends.high)) ×
    (125000 * (v * (ends.high - ends.low)) ≤ (x.d - x.a) * 2 ^ 27)
less c =
    let x = c.args in
    let ends = c.product-ends.result in
    let within = product_within c.before in
    rw (c.saturating_sub-2.ensures, c.max.ensures)
    (less_at_most x.a x.d x.k ends.high ends.low c.requires.0 c.requires.1 within.1 within.2)

pub overflow_mul-top-2 : goal.overflow_mul-top-2
overflow_mul-top-2 c = omega (arith, sum (goal.at.overflow_mul-top-2 c).After-saturating_sub-2)

pub overflow_add-top : goal.overflow_add-top
overflow_add-top c = omega (arith, sum (goal.at.overflow_add-top c).After-saturating_sub-2)

pub overflow_mul-top-3 : goal.overflow_mul-top-3
overflow_mul-top-3 c = omega (arith, sum (goal.at.overflow_mul-top-3 c).After-saturating_sub-2)

pub quotient_less-requires : goal.quotient_less-requires
quotient_less-requires c = let small = less (goal.at.quotient_less-requires c).After-saturating_sub-2 in (omega arith, small.0, small.1)

pub returns : goal.returns
unfolding formula_product weight_numerator
returns c =
    let x = c.args in
    made x.a x.d x.k x.p c.product-ends.result
    (c.product-ends.ensures.value ∙
    simp (c.units-x.ensures, c.units-l.ensures, c.saturating_sub.ensures, c.max.ensures))
    (product_within (goal.at.returns c).After-product-ends).1
    (simp (c.saturating_sub-2.ensures, c.max.ensures))
    (simp c.max.ensures)
    (omega arith)
    c.quotient_less.ensures
    c.rounded_up.ensures
