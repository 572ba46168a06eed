-- The ends of each step are ends: of a decay and of a mean decay by the series, of the product by the two factors' ends. product_above is at least the product of the two factors' high
-- ends, and at most product_distance above the product of their low ends. No axioms.
use mathlib.Core.Logic.{⊎_elim}
use mathlib.Core.Path.{◌≡◌, ap}
use Prim.Native.Nat.{ℕ, suc, ◌+◌, ◌*◌, ◌-◌, ◌^◌, ◌≤◌}
use native.Mathlib.Nat.{mul-le-mul_left, mul-le-mul_right, min-le_left}
use native.Mathlib.Omega.{arith}
use Rattle.series.specs.Fraction.{Fraction, over}
use Rattle.formula.specs.FixedPoint.{decay_distance, mean_decay_distance, product_distance, decay_below, decay_above, decay, mean_decay_above, mean_decay, product_above, product}
use Rattle.formula.specs.StepEnds.{DecayEnds, MeanDecayEnds, ProductEnds}
use Rattle.numbers.proofs.SmallerLarger.{le_or_lt, at_min}
use Rattle.series.proofs.Numbers.{at_difference}
use Rattle.series.proofs.SeriesLaws.{low_at_least_one}
use Rattle.series.specs.Bounds.{NotBelow}
use Rattle.formula.proofs.StepBounds.{decay_below_at_most, mean_decay_above_at_most, product_above_at_most}
use Rattle.formula.proofs.DecaySteps.{decay_not_above, decay_not_below}
use Rattle.formula.proofs.MeanDecay.{mean_decay_high, mean_decay_low}

-- e^(−q) is at most 1
one_not_below : (s : ℕ) (q : Fraction) → NotBelow s s q
one_not_below s q = record { some_k = 0; holds = mul-le-mul_left s (low_at_least_one q 0) }

pub decay_above_not_below : (x : ℕ) → NotBelow (decay_above x) (2 ^ 32) (over x (2 ^ 32))
unfolding decay_above
decay_above_not_below x =
    at_min (λ c. NotBelow c (2 ^ 32) (over x (2 ^ 32))) _ _ (decay_not_below x) (one_not_below (2 ^ 32) (over x (2 ^ 32)))

pub decay_ends : (x : ℕ) → DecayEnds x (decay x)
decay_ends x = record { low = decay_not_above x; high = decay_above_not_below x }

pub mean_decay_ends : (x : ℕ) → MeanDecayEnds x (mean_decay x)
mean_decay_ends x = record {
  low = λ a b a-pos b_pos least most. mean_decay_low a b a-pos b_pos x least most;
  high = λ a b a-pos b_pos least most. mean_decay_high a b a-pos b_pos x least most;
}

-- P (s + 1) ≤ f h + decay_distance × h + s + P, where f ≤ s, h and P are at most 2^27 and s = 2^32
near : (f h P : ℕ) → f ≤ 2 ^ 32 → h ≤ 2 ^ 27 → P ≤ 2 ^ 27 → P * 2 ^ 32 ≤ (f + decay_distance) * h + (2 ^ 32 - 1) →
    (P - product_distance) * suc (2 ^ 32) ≤ f * (h - mean_decay_distance)
near f h P f-most h-most P-most e = at_difference (λ Q. Q * suc (2 ^ 32) ≤ f * (h - mean_decay_distance)) P product_distance (omega arith) some
  where
    core : (Q i : ℕ) → Q + product_distance ≡ P → i + mean_decay_distance ≡ h → Q * suc (2 ^ 32) ≤ f * i
    core Q i p q = omega (arith, ap (λ (t : ℕ). f * t) q)

    some : (Q : ℕ) → Q + product_distance ≡ P → Q * suc (2 ^ 32) ≤ f * (h - mean_decay_distance)
    some Q p =
        ⊎_elim
        (λ l. core Q (h - mean_decay_distance) p (omega arith))
        (λ l. omega (arith, mul-le-mul_right h f-most))
        (le_or_lt mean_decay_distance h)

module _ (L x : ℕ) where
  rounded : product_above L x * 2 ^ 32 ≤ (decay_below L + decay_distance) * mean_decay_above x + (2 ^ 32 - 1)
  unfolding product_above decay_above
  rounded = omega (arith, mul-le-mul_right (mean_decay_above x) (min-le_left (decay_below L + decay_distance) (2 ^ 32)))

  product_high : decay_above L * mean_decay_above x ≤ product_above L x * 2 ^ 32
  unfolding product_above
  product_high = omega arith

  product_low : (product_above L x - product_distance) * suc (2 ^ 32) ≤ decay_below L * (mean_decay_above x - mean_decay_distance)
  product_low = near (decay_below L) (mean_decay_above x) (product_above L x) (decay_below_at_most L) (mean_decay_above_at_most x) (product_above_at_most L x) rounded

  pub product_ends : ProductEnds L x (product L x)
  product_ends = record { low = product_low; high = product_high }
