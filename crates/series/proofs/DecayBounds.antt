-- How facts that a fraction c / s lies on one side of e^(−q) are combined. No axioms.
use Prim.Native.Nat.{ℕ, ◌+◌, ◌*◌, ◌≤◌, ◌<◌}
use native.Mathlib.Nat.{mul-le-mul, mul-le-mul_left, mul-le-mul_right, le_of_mul-le-mul_right, mul-pos}
use native.Mathlib.Omega.{arith}
use Rattle.series.specs.Fraction.{Fraction, over, AtMost}
use Rattle.series.specs.Series.{low, up, Admitted}
use Rattle.series.specs.Bounds.{NotAbove, NotBelow}
use Rattle.series.proofs.SeriesLaws.{low_bottom_pos, up_bottom_pos, low_at_most_up, low_grows}
use Rattle.series.proofs.Exponents.{low_of_sum_at_most, low_of_sum_at_least}

-- a bound through Up, at an admitted k, holds for every Low
pub not_above_by_up : (q : Fraction) → 0 < q.bottom → (c s k : ℕ) → Admitted q k →
    c * (up q k).top ≤ s * (up q k).bottom → NotAbove c s q
not_above_by_up q pos c s k adm h =
    record {
      every =
          λ j.
          le_of_mul-le-mul_right {k = (up q k).bottom}
          (omega (arith, mul-le-mul_left c (low_at_most_up q pos j k adm), mul-le-mul_right (low q j).bottom h))
          (up_bottom_pos q pos k);
    }

module _ {c s : ℕ} {q : Fraction} (c' s' : ℕ) (pos : 0 < s) where
  -- a smaller fraction is on the same side
  pub not_above_weaker : c' * s ≤ c * s' → NotAbove c s q → NotAbove c' s' q
  not_above_weaker h b =
      record {
        every =
            λ k.
            le_of_mul-le-mul_right {k = s}
            (omega (arith, mul-le-mul_right (low q k).top h, mul-le-mul_right s' (b.every k)))
            pos;
      }

  -- a larger fraction is on the same side
  pub not_below_weaker : c * s' ≤ c' * s → NotBelow c s q → NotBelow c' s' q
  not_below_weaker h b =
      record {
        some_k = b.some_k;
        holds =
            le_of_mul-le-mul_right {k = s}
            (omega (arith, mul-le-mul_right (low q b.some_k).top h, mul-le-mul_right s' b.holds))
            pos;
      }

-- e^(−r) is at most e^(−q) where q is at most r
module _ (q r : Fraction) {c s : ℕ} where
  pub not_above_smaller : 0 < r.bottom → AtMost q r → NotAbove c s r → NotAbove c s q
  not_above_smaller pos at_most b =
      record {
        every =
            λ k.
            le_of_mul-le-mul_right {k = (low r k).bottom}
            (omega (
              arith,
              mul-le-mul_left c (low_grows q r at_most k),
              mul-le-mul_right (low q k).bottom (b.every k),
            ))
            (low_bottom_pos r pos k);
      }

  pub not_below_larger : 0 < q.bottom → AtMost q r → NotBelow c s q → NotBelow c s r
  not_below_larger pos at_most b =
      let k = b.some_k in
      record {
        some_k = k;
        holds =
            le_of_mul-le-mul_right {k = (low q k).bottom}
            (omega (
              arith,
              mul-le-mul_left c (low_grows q r at_most k),
              mul-le-mul_right (low r k).bottom b.holds,
            ))
            (low_bottom_pos q pos k);
      }

-- Products of bounds belong to sums of exponents.
module _ (a a' b : ℕ) (pos : 0 < b) {c s c' s' : ℕ} where
  pub not_above_product : NotAbove c s (over a b) → NotAbove c' s' (over a' b) → NotAbove (c * c') (s * s') (over (a + a') b)
  not_above_product f g =
      record {
        every =
            λ k.
            le_of_mul-le-mul_right
            {k = (low (over a b) k).bottom * (low (over a' b) k).bottom}
            (omega (
              arith,
              mul-le-mul_left (c * c') (low_of_sum_at_most a a' b k pos),
              mul-le-mul_right (low (over (a + a') b) k).bottom (mul-le-mul (f.every k) (g.every k)),
            ))
            (mul-pos (low_bottom_pos (over a b) pos k) (low_bottom_pos (over a' b) pos k));
      }

  pub not_below_product : NotBelow c s (over a b) → NotBelow c' s' (over a' b) → NotBelow (c * c') (s * s') (over (a + a') b)
  not_below_product f g =
      let j = f.some_k in
      let k = g.some_k in
      record {
        some_k = j + k;
        holds =
            le_of_mul-le-mul_right
            {k = (low (over a b) j).bottom * (low (over a' b) k).bottom}
            (omega (
              arith,
              mul-le-mul_left (c * c') (low_of_sum_at_least a a' b j k pos),
              mul-le-mul_right (low (over (a + a') b) (j + k)).bottom (mul-le-mul f.holds g.holds),
            ))
            (mul-pos (low_bottom_pos (over a b) pos j) (low_bottom_pos (over a' b) pos k));
      }
