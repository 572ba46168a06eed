-- From bounds for e^(−l) and for (1 − e^(−x)) / x to bounds for e^(−l) − e^(−(l + x)), at one k. No axioms.
use Prim.Native.Nat.{ℕ, suc, ◌+◌, ◌*◌, ◌^◌, ◌≤◌, ◌<◌}
use native.Mathlib.Nat.{mul-le-mul_left, le_of_mul-le-mul_right, zero-lt-suc}
use native.Mathlib.Omega.{arith}
use Rattle.series.specs.Fraction.{Fraction, over}
use Rattle.series.specs.Series.{low, up, Admitted}
use Rattle.series.specs.Bounds.{NotAbove, NotBelow, MeanDecayHigh, MeanDecayLow}
use Rattle.series.proofs.Eventually.{Eventually, both_eventually, map_eventually, at_some_k, up_bounded, low_bounded, admitted_eventually, over_eventually, under_eventually}

module _ (M b x : ℕ) (u v : Fraction) where
  -- 1 / u − 1 / v is at most x P / M b
  abbrev pub GapAtMost : ℕ → Type 0
  GapAtMost P = M * b * (u.bottom * v.top) ≤ M * b * (v.bottom * u.top) + P * x * (u.top * v.top)

  -- 1 / u − 1 / v is at least x P / M b
  abbrev pub GapAtLeast : ℕ → Type 0
  GapAtLeast P = P * x * (u.top * v.top) + M * b * (v.bottom * u.top) ≤ M * b * (u.bottom * v.top)

  -- with s × 1 / v at least c × 1 / u, and 1 / u at most g / t
  gap_high : (s c g t h P : ℕ) → 0 < s → 0 < t → c * v.top * u.bottom ≤ s * u.top * v.bottom →
      s * (M * b) ≤ s * (h * x) + c * (M * b) → t * u.bottom ≤ g * u.top → g * h ≤ P * t → GapAtMost P
  gap_high s c g t h P s_pos t-pos bound mean low-u product = omega (arith, first, mul-le-mul_left (x * v.top) second)
    where
      first : M * b * (u.bottom * v.top) ≤ M * b * (v.bottom * u.top) + h * x * (u.bottom * v.top)
      first =
          le_of_mul-le-mul_right {k = s}
          (omega (arith, mul-le-mul_left (M * b) bound, mul-le-mul_left (u.bottom * v.top) mean))
          s_pos

      second : h * u.bottom ≤ P * u.top
      second =
          le_of_mul-le-mul_right {k = t}
          (omega (arith, mul-le-mul_left h low-u, mul-le-mul_left u.top product))
          t-pos

  -- with s × 1 / v at most c × 1 / u, and 1 / u at least f / t
  gap_low : (s c f t h P : ℕ) → 0 < s → 0 < t → s * u.top * v.bottom ≤ c * v.top * u.bottom →
      s * (h * x) + c * (M * b) ≤ s * (M * b) → f * u.top ≤ t * u.bottom → P * t ≤ f * h → GapAtLeast P
  gap_low s c f t h P s_pos t-pos bound mean up-u product = omega (arith, first, mul-le-mul_left (x * v.top) second)
    where
      first : h * x * (u.bottom * v.top) + M * b * (v.bottom * u.top) ≤ M * b * (u.bottom * v.top)
      first =
          le_of_mul-le-mul_right {k = s}
          (omega (arith, mul-le-mul_left (M * b) bound, mul-le-mul_left (u.bottom * v.top) mean))
          s_pos

      second : P * u.top ≤ h * u.bottom
      second =
          le_of_mul-le-mul_right {k = t}
          (omega (arith, mul-le-mul_left h up-u, mul-le-mul_left u.top product))
          t-pos

-- the gap between the exponentials of l and u at k, from above and from below, where k counts
pub record Gap (l x u b P Q k : ℕ) : Type 0 where
  pub admitted_l : Admitted (over l b) k
  pub admitted_u : Admitted (over u b) k
  pub high : GapAtMost (2 ^ 27) b x (low (over l b) k) (up (over u b) k) P
  pub least : GapAtLeast (2 ^ 27) b x (up (over l b) k) (low (over u b) k) Q

module _ (l x b : ℕ) (b_pos : 0 < b) where
  pub gap_at_some_k : {f g h h' s : ℕ} (P Q : ℕ) → 0 < s → NotAbove f s (over l b) → NotBelow g s (over l b) → MeanDecayHigh x b h → MeanDecayLow x b h' →
      g * h ≤ P * s → Q * suc s ≤ f * h' → (k : ℕ) × Gap l x (l + x) b P Q k
  gap_at_some_k {f} {g} {h} {h'} {s} P Q s_pos above below hi lo product_high product_low = at_some_k eventually
    where
      counted : Eventually (λ k. Admitted (over l b) k × Admitted (over (l + x) b) k)
      counted = both_eventually (admitted_eventually b b_pos l) (admitted_eventually b b_pos (l + x))

      highs : Eventually (λ k. GapAtMost (2 ^ 27) b x (low (over l b) k) (up (over (l + x) b) k) P)
      highs =
          map_eventually
          (λ k e. gap_high (2 ^ 27) b x _ _ (suc hi.s) hi.c g s h P (zero-lt-suc _) s_pos e.1 hi.holds e.0 product_high)
          (both_eventually (low_bounded b b_pos l below) (over_eventually b b_pos l x hi.bound))

      leasts : Eventually (λ k. GapAtLeast (2 ^ 27) b x (up (over l b) k) (low (over (l + x) b) k) Q)
      leasts =
          map_eventually
          (λ k e. gap_low (2 ^ 27) b x _ _ lo.s (suc lo.c) f (suc s) h' Q lo.s_pos (zero-lt-suc _) e.1 lo.holds e.0 product_low)
          (both_eventually (up_bounded b b_pos l above) (under_eventually b b_pos l x lo.bound))

      eventually : Eventually (Gap l x (l + x) b P Q)
      eventually =
          map_eventually
          (λ k e. record { admitted_l = e.0.0; admitted_u = e.0.1; high = e.1.0; least = e.1.1 })
          (both_eventually counted (both_eventually highs leasts))
