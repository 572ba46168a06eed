-- mean_decay_above x is at least 2^27 × (1 − e^(−x)) / x, and at most mean_decay_distance above it. No axioms.
use mathlib.Core.Logic.{⊎_elim}
use Prim.Native.Nat.{ℕ, suc, ◌+◌, ◌*◌, ◌-◌, ◌^◌, ◌/◌, min, ◌≤◌, ◌<◌}
use native.Mathlib.Nat.{mul-le-mul_left, mul-le-mul_right, mul-pos, div-mul-le_self, pow-zero, pow-suc, lt-div-mul-add}
use native.Mathlib.Omega.{arith}
use borrow.Author.Tests.{lt-ltb, le-ltb}
use Rattle.series.specs.Fraction.{over}
use Rattle.series.specs.Series.{factorial, low}
use Rattle.formula.specs.FixedPoint.{decay_distance, mean_decay_distance, decay_below, mean_decay_of_small, mean_decay_of_large, mean_decay_above}
use Rattle.numbers.proofs.SmallerLarger.{le_or_lt, at_min}
use Rattle.series.proofs.Numbers.{at_difference}
use Rattle.series.proofs.DecayBounds.{not_above_weaker, not_below_weaker, not_above_smaller, not_below_larger}
use Rattle.series.proofs.Rest.{second, second_equation, second_not_below, third, third_equation, third_not_above}
use Rattle.series.specs.Bounds.{MeanDecayHigh, MeanDecayLow}
use Rattle.series.proofs.MeanDecayBounds.{mean_decay_low_weaker, scale_up, small_third, by_third, small_second, by_second, by_quotient, from_quotient, mean_decay_high_one}
use Rattle.formula.proofs.DecaySteps.{decay_not_above, decay_not_below}

-- mean_decay_distance covers the decay's distance and what the quotient by X in place of X + 1 adds
under_quotient : (X c q h : ℕ) → 2 ^ 23 ≤ X → h ≤ 2 ^ 27 → h ≤ q + 1 → suc (c + decay_distance) ≤ 2 ^ 32 → q * X + c * 2 ^ 27 ≤ (2 ^ 32 + 1) * 2 ^ 27 →
    (h - mean_decay_distance) * suc X + suc (c + decay_distance) * 2 ^ 27 ≤ 2 ^ 32 * 2 ^ 27
under_quotient X c q h large one l small e =
    at_difference (λ g. g * suc X + suc (c + decay_distance) * 2 ^ 27 ≤ 2 ^ 32 * 2 ^ 27) h mean_decay_distance
    (omega arith)
    (λ g f. omega (arith, mul-le-mul_right {m = g + (mean_decay_distance - 1)} {n = q} X (omega arith)))

module _ (a b : ℕ) (a-pos : 0 < a) (b_pos : 0 < b) where
  -- ---- x below 2^−9, where 2^32 x lies between X and X + 1: 1 − x / 2 and 1 − x / 2 + x² / 3

  module _ (X : ℕ) (least : X * b ≤ a * 2 ^ 32) (most : a * 2 ^ 32 < suc X * b) where
    module _ (small : X < 2 ^ 23) where
      ninth : 2 ^ 9 * a ≤ b
      ninth = omega (arith, mul-le-mul_right b small)

      below : a ≤ b
      below = omega (arith, ninth)

      abbrev g : ℕ
      g = X / 64

      -- g ≤ 2^26 x
      slope_low : g * b ≤ 2 ^ 26 * a
      slope_low = omega (arith, mul-le-mul_right b (div-mul-le_self X 64))

      -- 2^26 x < g + 1
      slope_high : 2 ^ 26 * a < suc g * b
      slope_high = omega (arith, mul-le-mul_right {m = suc X} {n = 64 * suc g} b (omega arith))

      small_high : MeanDecayHigh a b (mean_decay_of_small X)
      unfolding mean_decay_of_small
      small_high = record {
        c = 2 ^ 27 * third a b;
        s = 2 ^ 27 * (6 * (b * (b * b)));
        bound = not_above_weaker (2 ^ 27 * third a b) (2 ^ 27 * (6 * (b * (b * b)))) (omega (arith, mul-pos b_pos (mul-pos b_pos b_pos)))
            (scale_up (2 ^ 27) (third a b) (6 * (b * (b * b)))) (third_not_above a b b_pos below);
        holds = by_third a b (2 ^ 27) (mean_decay_of_small X) (third a b) a-pos
            (small_third a b g (mean_decay_of_small X) b_pos ninth slope_low (omega arith)) (third_equation a b below);
      }

      small_low : MeanDecayLow a b (2 ^ 27 - g - 1)
      small_low = record {
        c = 2 ^ 27 * second a b;
        s = 2 ^ 27 * (2 * (b * b));
        s_pos = omega (arith, mul-pos b_pos b_pos);
        bound = not_below_weaker (2 ^ 27 * second a b) (2 ^ 27 * (2 * (b * b))) (omega (arith, mul-pos b_pos b_pos))
            (omega arith) (second_not_below a b below);
        holds = by_second a b (2 ^ 27) (2 ^ 27 - g - 1) (second a b) a-pos
            (small_second a b g (2 ^ 27 - g - 1) slope_high (omega arith)) (second_equation a b below);
      }

    -- ---- any other x: (1 − decay) / x

    module _ (large : 2 ^ 23 ≤ X) where
      abbrev c : ℕ
      c = decay_below X

      -- c × (1 + x) ≤ 2^32, by Low(1)
      decay_small : c * (2 ^ 32 + suc X) ≤ 2 ^ 64
      unfolding low factorial
      decay_small =
          omega (arith, simp (pow-zero, pow-suc (suc X) 0, pow-suc (2 ^ 32) 0) at ((decay_not_above X).every 1))

      decay_room : suc (c + decay_distance) ≤ 2 ^ 32
      decay_room = omega (arith, decay_small, mul-le-mul_left c large)

      X-pos : 0 < X
      X-pos = omega arith

      large_low : (h : ℕ) → h ≤ 2 ^ 27 → h ≤ mean_decay_of_large X → MeanDecayLow a b (h - mean_decay_distance)
      unfolding mean_decay_of_large
      large_low h one l = record {
        c = c + decay_distance;
        s = 2 ^ 32;
        s_pos = omega arith;
        bound = not_below_larger (over X (2 ^ 32)) (over a b) (omega arith) (omega arith) (decay_not_below X);
        holds = from_quotient a b X (suc (c + decay_distance)) (h - mean_decay_distance) most
            (under_quotient X c ((2 ^ 32 + 1 - c) * 2 ^ 27 / X) h large one (omega arith) decay_room
            (omega (arith, decay_room, div-mul-le_self ((2 ^ 32 + 1 - c) * 2 ^ 27) X)));
      }

      large_high : MeanDecayHigh a b (mean_decay_of_large X)
      unfolding mean_decay_of_large
      large_high = record {
        c = c;
        s = 2 ^ 32;
        bound = not_above_smaller (over a b) (over (suc X) (2 ^ 32)) (omega arith) (omega arith) (decay_not_above X);
        holds = by_quotient a b X c (2 ^ 32 + 1 - c) (2 ^ 27) (mean_decay_of_large X) least
            (omega (arith, decay_room)) (omega (arith, lt-div-mul-add {a = (2 ^ 32 + 1 - c) * 2 ^ 27} X-pos));
      }

    -- ---- the two cases, and the cap at 1

    mean_decay_high_at_min : (h : ℕ) → MeanDecayHigh a b h → MeanDecayHigh a b (min (2 ^ 27) h)
    mean_decay_high_at_min h w = at_min (MeanDecayHigh a b) (2 ^ 27) h (mean_decay_high_one a b a-pos b_pos) w

    pub mean_decay_high : MeanDecayHigh a b (mean_decay_above X)
    unfolding mean_decay_above
    mean_decay_high =
        ⊎_elim
        (λ l. rw (le-ltb X (2 ^ 23) l) (mean_decay_high_at_min _ (large_high l)))
        (λ l. rw (lt-ltb X (2 ^ 23) l) (mean_decay_high_at_min _ (small_high l)))
        (le_or_lt (2 ^ 23) X)

    pub mean_decay_low : MeanDecayLow a b (mean_decay_above X - mean_decay_distance)
    unfolding mean_decay_above mean_decay_of_small
    mean_decay_low =
        ⊎_elim
        (λ l. rw (le-ltb X (2 ^ 23) l) (large_low l _ (omega arith) (omega arith)))
        (λ l. rw (lt-ltb X (2 ^ 23) l) (mean_decay_low_weaker _ (omega arith) (small_low l)))
        (le_or_lt (2 ^ 23) X)
