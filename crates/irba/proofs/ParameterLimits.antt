-- The limits of the parameter: every row of coefficients is small, and on all inputs the parameter is at least 0.3 and below 5. No axioms.
use mathlib.Core.Bool.{Bool, true, false, cond, ◌&&◌}
use mathlib.Core.Path.{◌≡◌, ap}
use Prim.Native.Nat.{ℕ, ◌+◌, ◌*◌, ◌≤◌, ◌<◌, max}
use native.Mathlib.Nat.{mul-le-mul_left, mul-le-mul_right}
use native.Mathlib.Omega.{arith}
use lib.Dec.{leb}
use lib.IntN.{ℤ, pos, ◌+ℤ◌, ◌*ℤ◌}
use borrow.Author.Tests.{leb-true}
use Rattle.numbers.proofs.RoundingLaws.{rounded_up_at_most}
use Rattle.numbers.proofs.Tests.{at_cond, both_true, between_true}
use Rattle.numbers.specs.Limits.{within}
use Rattle.numbers.specs.Rounding.{rounded_up}
use Rattle.irba.specs.declared.Coefficients.{Coefficients}
use Rattle.irba.specs.declared.IrbFigures.{IrbFigures}
use Rattle.irba.specs.Parameter.{wholesale_senior, wholesale_non_senior, retail_pool, coefficients, few_loans, signed_sum, pool_sum, denominator, sum_parameter, within_limits, parameter}
use Rattle.irba.specs.SmallCoefficients.{SmallCoefficients}
use Rattle.irba.proofs.SignedLaws.{part_above_zero, above_zero_sum, above_zero_product, raised_quotient}

-- ---- the rows of coefficients

-- what holds of each row holds of every pool's
each_row :
    (P : Coefficients → Type 0) → P (wholesale_senior true) → P (wholesale_senior false) → P (wholesale_non_senior true) →
    P (wholesale_non_senior false) → P (retail_pool true) → P (retail_pool false) → (senior few retail : Bool) →
    P (coefficients senior few retail)
each_row P a b c d e f true few true = e
each_row P a b c d e f false few true = f
each_row P a b c d e f true true false = a
each_row P a b c d e f true false false = b
each_row P a b c d e f false true false = c
each_row P a b c d e f false false false = d

pub coefficients_small : (senior few retail : Bool) → SmallCoefficients (coefficients senior few retail)
coefficients_small =
    each_row SmallCoefficients (omega arith) (omega arith) (omega arith) (omega arith) (omega arith) (omega arith)

-- with five years, one loan, and a charge and a loss of 1, the terms above 0 come to less than 5
abbrev BelowFive : Coefficients → Type 0
BelowFive c =
    part_above_zero c.constant + part_above_zero c.number + part_above_zero c.charge + part_above_zero c.loss + 5 * part_above_zero c.year <
    500

below_five : (senior few retail : Bool) → BelowFive (coefficients senior few retail)
below_five = each_row BelowFive (omega arith) (omega arith) (omega arith) (omega arith) (omega arith) (omega arith)

-- ---- the limits as orders

pub record Limits (charge fifths : ℕ) (f : IrbFigures) : Type 0 where
  pub charge_most : charge ≤ 1000000
  pub fifths_most : fifths ≤ 300
  pub loss_most : f.loss ≤ 1000000
  pub loans_least : 1 ≤ f.loans
  pub loans_most : f.loans ≤ 1000000

pub limits_of_test : (charge fifths : ℕ) (f : IrbFigures) → within_limits charge fifths f ≡ true → Limits charge fifths f
limits_of_test charge fifths f e =
    let four = both_true (leb charge 1000000 && leb fifths 300 && leb f.loss 1000000) (within 1 1000000 f.loans) e in
    let three = both_true (leb charge 1000000 && leb fifths 300) (leb f.loss 1000000) four.0 in
    let two = both_true (leb charge 1000000) (leb fifths 300) three.0 in
    let loans = between_true 1 1000000 f.loans four.1 in
    record {
      charge_most = leb-true charge 1000000 two.0;
      fifths_most = leb-true fifths 300 two.1;
      loss_most = leb-true f.loss 1000000 three.1;
      loans_least = loans.0;
      loans_most = loans.1;
    }

-- ---- the sum

-- five products, each of whose second factors is at most n, the last's five times n
products_at_most :
    (a b c d e w x y z n : ℕ) → a + b + c + d + 5 * e < 500 → w ≤ n → x ≤ n → y ≤ n → z ≤ 5 * n →
    a * n + b * w + c * x + d * y + e * z ≤ 499 * n
products_at_most a b c d e w x y z n h p q r s =
    let whole : a + b + c + d + 5 * e ≤ 499 = omega arith in
    omega (
      arith,
      mul-le-mul_left b p,
      mul-le-mul_left c q,
      mul-le-mul_left d r,
      mul-le-mul_left e s,
      mul-le-mul_right n whole,
    )

sum_of_five : (v w x y z : ℤ) →
    part_above_zero (v +ℤ w +ℤ x +ℤ y +ℤ z) ≤
    part_above_zero v + part_above_zero w + part_above_zero x + part_above_zero y + part_above_zero z
sum_of_five v w x y z =
    omega (
      arith,
      above_zero_sum v w,
      above_zero_sum (v +ℤ w) x,
      above_zero_sum (v +ℤ w +ℤ x) y,
      above_zero_sum (v +ℤ w +ℤ x +ℤ y) z,
    )

sum_at_most :
    (c : Coefficients) (charge fifths : ℕ) (f : IrbFigures) → BelowFive c → Limits charge fifths f →
    part_above_zero (signed_sum c charge fifths f) ≤ 499 * (3000000 * f.loans)
sum_at_most c charge fifths f below l =
    let n = f.loans in
    let whole = 3000000 * n in
    let charges = 3 * charge * n in
    let losses = 3 * f.loss * n in
    let years = 50000 * fifths * n in
    omega (
      arith,
      sum_of_five (c.constant *ℤ pos whole) (c.number *ℤ pos 3000000) (c.charge *ℤ pos charges) (c.loss *ℤ pos losses)
          (c.year *ℤ pos years),
      above_zero_product c.constant whole,
      above_zero_product c.number 3000000,
      above_zero_product c.charge charges,
      above_zero_product c.loss losses,
      above_zero_product c.year years,
      products_at_most (part_above_zero c.constant) (part_above_zero c.number) (part_above_zero c.charge) (part_above_zero c.loss)
          (part_above_zero c.year) 3000000 charges losses years whole below
          (omega arith)
          (omega (arith, mul-le-mul_right n l.charge_most))
          (omega (arith, mul-le-mul_right n l.loss_most))
          (omega (arith, mul-le-mul_right n l.fifths_most)),
    )

-- ---- the parameter

pub denominator_positive : (stc : Bool) (loans : ℕ) → 1 ≤ loans → 0 < denominator stc loans
denominator_positive true loans h = omega arith
denominator_positive false loans h = omega arith

pub denominator_most : (stc : Bool) (loans : ℕ) → loans ≤ 1000000 → denominator stc loans ≤ 600000000
denominator_most true loans h = omega arith
denominator_most false loans h = omega arith

three_hundred_at_most : (stc : Bool) (loans : ℕ) → 300 * loans ≤ denominator stc loans
three_hundred_at_most true loans = omega arith
three_hundred_at_most false loans = omega arith

module _ (senior stc : Bool) (charge fifths : ℕ) (f : IrbFigures) where
  -- by the part of the sum above 0 alone
  pub sum_parameter_is :
      sum_parameter senior stc charge fifths f ≡ max (rounded_up (part_above_zero (pool_sum senior charge fifths f)) (denominator stc f.loans)) 300000
  unfolding sum_parameter
  sum_parameter_is = raised_quotient 300000 (pool_sum senior charge fifths f) (denominator stc f.loans)

  pub parameter_inside : within_limits charge fifths f ≡ true → parameter senior stc charge fifths f ≡ sum_parameter senior stc charge fifths f
  unfolding parameter
  parameter_inside inside = ap (λ (b : Bool). cond b (sum_parameter senior stc charge fifths f) 4999999) inside

  pub parameter_outside : within_limits charge fifths f ≡ false → parameter senior stc charge fifths f ≡ 4999999
  unfolding parameter
  parameter_outside outside = ap (λ (b : Bool). cond b (sum_parameter senior stc charge fifths f) 4999999) outside

  pub parameter_least : 300000 ≤ parameter senior stc charge fifths f
  unfolding parameter
  parameter_least =
      at_cond (λ p. 300000 ≤ p) (within_limits charge fifths f) _ _ (λ inside. omega (arith, sum_parameter_is)) (λ outside. omega arith)

  sum_parameter_most : Limits charge fifths f → sum_parameter senior stc charge fifths f < 5000000
  sum_parameter_most l =
      let sum = sum_at_most (coefficients senior (few_loans f) f.retail) charge fifths f (below_five senior (few_loans f) f.retail) l in
      omega (
        arith,
        sum_parameter_is,
        rounded_up_at_most (part_above_zero (pool_sum senior charge fifths f)) (denominator stc f.loans) 4990000
            (omega (arith, sum, three_hundred_at_most stc f.loans)),
      )

  pub parameter_most : parameter senior stc charge fifths f < 5000000
  unfolding parameter
  parameter_most =
      at_cond (λ p. p < 5000000) (within_limits charge fifths f) _ _
      (λ inside. sum_parameter_most (limits_of_test charge fifths f inside)) (λ outside. omega arith)
