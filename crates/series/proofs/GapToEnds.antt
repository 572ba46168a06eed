-- From the gap between the two exponentials to the upper and the lower end of the raw weight. No axioms.
use Prim.Native.Nat.{ℕ, ◌+◌, ◌*◌, ◌^◌, ◌≤◌, ◌<◌}
use native.Mathlib.Nat.{mul-pos, mul-le-mul_left, mul-lt-mul_of_pos_left}
use native.Mathlib.Omega.{arith}
use Rattle.series.specs.Fraction.{Fraction, over, plus, times, divided_by, inverse, whole}
use Rattle.series.specs.Ends.{Difference, EndAtMost, EndAboveMinusTwo, EndAtLeast, EndBelowPlusOneAndAHalf}
use Rattle.series.proofs.Gap.{GapAtMost, GapAtLeast}

-- 125,000 × (t + s × (1 / e − 1 / f)) / m, with s = b / 1,000,000
abbrev pub end_of : ℕ → ℕ → ℕ → Fraction → Fraction → Difference
end_of t m b e f = record {
  minuend = divided_by (times (whole 125000) (plus (whole t) (times (over b 1000000) (inverse e)))) (whole m);
  subtrahend = divided_by (times (whole 125000) (times (over b 1000000) (inverse f))) (whole m);
}

-- the two ends, with the products that the fractions' definitions make (the bottom of l / s and u / s is 1 × b)
module _ (t m b v w P et eb ft fb : ℕ) where
  multiplied_high : 2 ^ 27 * (1 * b) * (eb * ft) ≤ 2 ^ 27 * (1 * b) * (fb * et) + P * (v * 1000000) * (et * ft) →
      125000 * (t * 2 ^ 27 + v * P) ≤ w * (m * 2 ^ 27) →
      125000 * (t * (1000000 * (1 * et)) + b * (1 * eb) * 1) * 1 * (1 * (1 * (1000000 * (1 * ft)) * m)) ≤
      (w * (1 * (1000000 * (1 * ft)) * m) + 125000 * (b * (1 * fb)) * 1 * 1) * (1 * (1 * (1000000 * (1 * et))) * m)
  multiplied_high gap weight =
      omega (arith, mul-le-mul_left (125000 * 1000000 * m) gap, mul-le-mul_left (1000000 * 1000000 * (et * ft) * m) weight)

  multiplied_low : 0 < m → 0 < et → 0 < ft → P * (v * 1000000) * (et * ft) + 2 ^ 27 * (1 * b) * (fb * et) ≤ 2 ^ 27 * (1 * b) * (eb * ft) →
      w * (m * 2 ^ 27) < 125000 * (t * 2 ^ 27 + v * P) + 2 * (m * 2 ^ 27) →
      (w * (1 * (1000000 * (1 * ft)) * m) + 125000 * (b * (1 * fb)) * 1 * 1) * (1 * (1 * (1000000 * (1 * et))) * m * 1) <
      (125000 * (t * (1000000 * (1 * et)) + b * (1 * eb) * 1) * 1 * 1 + 2 * (1 * (1 * (1000000 * (1 * et))) * m)) *
      (1 * (1 * (1000000 * (1 * ft)) * m))
  multiplied_low m-pos e-pos f-pos gap weight =
      omega (
        arith,
        mul-le-mul_left (125000 * 1000000 * m) gap,
        mul-lt-mul_of_pos_left weight (mul-pos (mul-pos e-pos f-pos) m-pos),
      )

  multiplied_least : P * (v * 1000000) * (et * ft) + 2 ^ 27 * (1 * b) * (fb * et) ≤ 2 ^ 27 * (1 * b) * (eb * ft) →
      w * (m * 2 ^ 27) ≤ 125000 * (t * 2 ^ 27 + v * P) →
      (w * (1 * (1000000 * (1 * ft)) * m) + 125000 * (b * (1 * fb)) * 1 * 1) * (1 * (1 * (1000000 * (1 * et))) * m) ≤
      125000 * (t * (1000000 * (1 * et)) + b * (1 * eb) * 1) * 1 * (1 * (1 * (1000000 * (1 * ft)) * m))
  multiplied_least gap weight =
      omega (arith, mul-le-mul_left (125000 * 1000000 * m) gap, mul-le-mul_left (1000000 * 1000000 * (et * ft) * m) weight)

  multiplied_most : 0 < m → 0 < et → 0 < ft → 2 ^ 27 * (1 * b) * (eb * ft) ≤ 2 ^ 27 * (1 * b) * (fb * et) + P * (v * 1000000) * (et * ft) →
      2 * (125000 * (t * 2 ^ 27 + v * P)) < (2 * w + 3) * (m * 2 ^ 27) →
      125000 * (t * (1000000 * (1 * et)) + b * (1 * eb) * 1) * 1 * (1 * 2 * (1 * (1000000 * (1 * ft)) * m)) <
      ((w * 2 + 3 * 1) * (1 * (1000000 * (1 * ft)) * m) + 125000 * (b * (1 * fb)) * 1 * (1 * 2)) * (1 * (1 * (1000000 * (1 * et))) * m)
  multiplied_most m-pos e-pos f-pos gap weight =
      omega (
        arith,
        mul-le-mul_left (125000 * 1000000 * m) gap,
        mul-lt-mul_of_pos_left weight (mul-pos (mul-pos e-pos f-pos) m-pos),
      )

-- from the gap between the two exponentials to the ends, for a tranche of thickness m, of which t lies below K and v above
module _ (t m b v w P : ℕ) (e f : Fraction) where
  pub end_at_most_lem : GapAtMost (2 ^ 27) (1 * b) (v * 1000000) e f P →
      125000 * (t * 2 ^ 27 + v * P) ≤ w * (m * 2 ^ 27) → EndAtMost (end_of t m b e f) w
  end_at_most_lem = multiplied_high t m b v w P e.top e.bottom f.top f.bottom

  pub end_above : 0 < m → 0 < e.top → 0 < f.top → GapAtLeast (2 ^ 27) (1 * b) (v * 1000000) e f P →
      w * (m * 2 ^ 27) < 125000 * (t * 2 ^ 27 + v * P) + 2 * (m * 2 ^ 27) → EndAboveMinusTwo (end_of t m b e f) w
  end_above = multiplied_low t m b v w P e.top e.bottom f.top f.bottom

  pub end_at_least_lem : GapAtLeast (2 ^ 27) (1 * b) (v * 1000000) e f P →
      w * (m * 2 ^ 27) ≤ 125000 * (t * 2 ^ 27 + v * P) → EndAtLeast (end_of t m b e f) w
  end_at_least_lem = multiplied_least t m b v w P e.top e.bottom f.top f.bottom

  pub end_below : 0 < m → 0 < e.top → 0 < f.top → GapAtMost (2 ^ 27) (1 * b) (v * 1000000) e f P →
      2 * (125000 * (t * 2 ^ 27 + v * P)) < (2 * w + 3) * (m * 2 ^ 27) → EndBelowPlusOneAndAHalf (end_of t m b e f) w
  end_below = multiplied_most t m b v w P e.top e.bottom f.top f.bottom
