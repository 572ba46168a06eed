-- Laws of signed numbers, by cases on the sign: how large a product and a sum are; sums of small terms as the machine takes
-- them; a number from 0 up, rounded up; and the part above 0, a whole number that alone decides what a quotient rounded up
-- and raised is. No axioms.
use mathlib.Core.Bool.{false}
use mathlib.Core.Path.{◌≡◌, refl, sym, ◌∙◌, subst}
use Prim.Native.Nat.{ℕ, zero, suc, ◌+◌, ◌*◌, ◌-◌, ◌/◌, ◌≤◌, ◌<◌, max}
use native.Mathlib.Nat.{mul-le-mul_right}
use native.Mathlib.Omega.{arith}
use lib.Dec.{ltb, lit≤, le→leb, lt→ltb, leb→le, ltb→lt}
use lib.IntN.{ℤ, pos, negsuc, neg_ℤ, nat_abs, sub_ℕ, ◌+ℤ◌, ◌*ℤ◌}
use lib.Signed.{mag, lt_z, ◌≤ℤ◌, ◌<ℤ◌}
use mir.Syntax.{w64}
use mir.Val.{SFits, to_z, of_z}
use mir.ValLaws.{to_z-of_z}
use Rattle.numbers.proofs.RoundingLaws.{rounded_up_zero}
use Rattle.numbers.proofs.Tests.{true_not_false, at_cond}
use Rattle.numbers.specs.Rounding.{rounded_up}
use Rattle.irba.specs.Parameter.{signed_rounded_up, raised_to}
use Rattle.irba.specs.SmallCoefficients.{SmallTerm}

-- ---- how large a number is, its sign aside

mag_negated : (q n : ℕ) → q ≤ suc n → mag (neg_ℤ (pos q)) ≤ n
mag_negated zero n h = omega arith
mag_negated (suc q) n h = omega arith

pub mag_product : (z : ℤ) (n : ℕ) → mag (z *ℤ pos n) ≤ suc (mag z) * n
mag_product (pos a) n = omega arith
mag_product (negsuc a) n = mag_negated (suc a * n) (suc a * n) (omega arith)

mag_difference : (a b : ℕ) → mag (sub_ℕ a b) ≤ a + b
mag_difference a b =
    at_cond (λ (z : ℤ). mag z ≤ a + b) (ltb a b) (negsuc (b - suc a)) (pos (a - b)) (λ e. omega arith) (λ e. omega arith)

pub mag_sum : (x y : ℤ) → mag (x +ℤ y) ≤ suc (mag x + mag y)
mag_sum (pos a) (pos b) = omega arith
mag_sum (pos a) (negsuc b) = omega (arith, mag_difference a (suc b))
mag_sum (negsuc a) (pos b) = omega (arith, mag_difference b (suc a))
mag_sum (negsuc a) (negsuc b) = omega arith

-- ---- sums as the machine takes them, of what it reads back from the bits of their parts

abbrev pub machine_sum : ℤ → ℤ → ℤ
machine_sum x y = to_z w64 (of_z w64 x) +ℤ to_z w64 (of_z w64 y)

-- x is z, a sum of n small terms
pub record SumOf (n : ℕ) (x z : ℤ) : Type 0 where
  pub is : x ≡ z
  pub small : mag z < n * 15000000000000001

pub one_term : (z : ℤ) → SmallTerm z → SumOf 1 z z
one_term z h = record { is = refl; small = omega (arith, h) }

pub sum_fits : {n : ℕ} {x z : ℤ} → SumOf n x z → n ≤ 5 → SFits w64 x
sum_fits {n} {x} {z} s h =
    subst (SFits w64) (sym s.is) (record { sfits = omega (arith, s.small, mul-le-mul_right 15000000000000001 h) })

pub sum_read : {n : ℕ} {x z : ℤ} → SumOf n x z → n ≤ 5 → to_z w64 (of_z w64 x) ≡ z
sum_read {n} {x} {z} s h = to_z-of_z w64 x (sum_fits s h) ∙ s.is

pub one_more : {n : ℕ} {x z : ℤ} (w : ℤ) → SumOf n x z → n ≤ 5 → SmallTerm w → SumOf (suc n) (machine_sum x w) (z +ℤ w)
one_more {n} {x} {z} w s h k =
    record {
      is = λ i. sum_read s h i +ℤ sum_read (one_term w k) (lit≤ tt) i;
      small = omega (arith, mag_sum z w, s.small, k);
    }

-- ---- a number that is no lower than one from 0 up

pub rounded_up_from_zero : (z : ℤ) (d : ℕ) → lt_z z (pos 0) ≡ false → pos (rounded_up (nat_abs z) d) ≡ signed_rounded_up z d
rounded_up_from_zero (pos a) d e = refl
rounded_up_from_zero (negsuc a) d e = absurd (true_not_false e)

pub mag_from_zero : (least : ℕ) (z : ℤ) → lt_z z (pos least) ≡ false → nat_abs z ≡ mag z
mag_from_zero least (pos a) e = refl
mag_from_zero least (negsuc a) e = absurd (true_not_false e)

-- ---- the part above 0

abbrev pub part_above_zero : ℤ → ℕ
part_above_zero (pos n) = n
part_above_zero (negsuc n) = 0

above_zero_difference : (a b : ℕ) → part_above_zero (sub_ℕ a b) ≤ a
above_zero_difference a b =
    at_cond (λ (z : ℤ). part_above_zero z ≤ a) (ltb a b) (negsuc (b - suc a)) (pos (a - b)) (λ e. omega arith) (λ e. omega arith)

pub above_zero_sum : (x y : ℤ) → part_above_zero (x +ℤ y) ≤ part_above_zero x + part_above_zero y
above_zero_sum (pos a) (pos b) = omega arith
above_zero_sum (pos a) (negsuc b) = omega (arith, above_zero_difference a (suc b))
above_zero_sum (negsuc a) (pos b) = omega (arith, above_zero_difference b (suc a))
above_zero_sum (negsuc a) (negsuc b) = omega arith

above_zero_negated : (n : ℕ) → part_above_zero (neg_ℤ (pos n)) ≡ 0
above_zero_negated zero = refl
above_zero_negated (suc n) = refl

pub above_zero_product : (z : ℤ) (n : ℕ) → part_above_zero (z *ℤ pos n) ≡ part_above_zero z * n
above_zero_product (pos a) n = refl
above_zero_product (negsuc a) n = omega (arith, above_zero_negated (suc a * n))

pub above_zero_at_most : (z : ℤ) (m : ℕ) → z ≤ℤ pos m → part_above_zero z ≤ m
above_zero_at_most (pos n) m h = leb→le n m h.le
above_zero_at_most (negsuc n) m h = omega arith

pub at_most_above_zero : (z : ℤ) (m : ℕ) → part_above_zero z ≤ m → z ≤ℤ pos m
at_most_above_zero (pos n) m h = record { le = le→leb n m h }
at_most_above_zero (negsuc n) m h = record { le = tt }

-- a whole number below z + d is below the sum of z's part above 0 and d, and the other way where z is above 0
below_then_above_zero : (z : ℤ) (m : ℕ) → pos m <ℤ z → m < part_above_zero z
below_then_above_zero (pos n) m h = ltb→lt m n h.lt
below_then_above_zero (negsuc n) m h = absurd h.lt

pub below_above_zero : (z : ℤ) (m d : ℕ) → pos m <ℤ (z +ℤ pos d) → m < part_above_zero z + d
below_above_zero z m d h = omega (arith, below_then_above_zero (z +ℤ pos d) m h, above_zero_sum z (pos d))

pub above_zero_below : (z : ℤ) (m d : ℕ) → 0 < part_above_zero z → m < part_above_zero z + d → pos m <ℤ (z +ℤ pos d)
above_zero_below (pos n) m d above h = record { lt = lt→ltb m (n + d) h }
above_zero_below (negsuc n) m d above h = absurd (omega arith)

-- rounded up, then raised: a negative quotient is raised as 0 is
raised_negated : (least q : ℕ) → raised_to least (neg_ℤ (pos q)) ≡ least
raised_negated least zero = omega arith
raised_negated least (suc q) = refl

pub raised_quotient : (least : ℕ) (z : ℤ) (d : ℕ) → raised_to least (signed_rounded_up z d) ≡ max (rounded_up (part_above_zero z) d) least
raised_quotient least (pos n) d = refl
raised_quotient least (negsuc n) d = omega (arith, raised_negated least (suc n / d), rounded_up_zero d)
