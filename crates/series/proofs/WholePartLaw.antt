-- The rule of a whole part by the series leaves one number, and its two comparisons multiplied out. No axioms.
use mathlib.Core.Path.{◌≡◌}
use Prim.Native.Nat.{ℕ, suc, ◌*◌, ◌≤◌, ◌<◌}
use native.Mathlib.Nat.{le_antisymm, le_of_suc-le-suc, lt_of_mul-lt-mul_right, mul-le-mul_left, mul-le-mul_right, mul-lt-mul_of_pos_right}
use native.Mathlib.Numerals.{add-one}
use native.Mathlib.Omega.{arith}
use Rattle.series.specs.Fraction.{Fraction, divided_by, whole, AtMost, Below}
use Rattle.series.specs.Series.{low, up}
use Rattle.series.specs.DecayTable.{WholePart}
use Rattle.series.proofs.SeriesLaws.{up_bottom_pos, low_at_most_up}

-- v ≤ m / x and m / x < v, multiplied out
module _ (v m : ℕ) (x : Fraction) where
  pub at_most_quotient : v * x.top ≤ m * x.bottom → AtMost (whole v) (divided_by (whole m) x)
  at_most_quotient h = omega arith

  product_at_most : AtMost (whole v) (divided_by (whole m) x) → v * x.top ≤ m * x.bottom
  product_at_most h = omega arith

  product_above_lem : Below (divided_by (whole m) x) (whole v) → m * x.bottom < v * x.top
  product_above_lem h = omega arith

  pub quotient_below : m * x.bottom < v * x.top → Below (divided_by (whole m) x) (whole v)
  quotient_below h = omega arith

-- v × u ≤ m < (v' + 1) × l and l ≤ u give v < v' + 1, times the positive u × l
chained : (v v' m : ℕ) (u l : Fraction) → 0 < u.bottom → v * u.top ≤ m * u.bottom → m * l.bottom < suc v' * l.top → AtMost l u →
    v * (u.top * l.bottom) < suc v' * (u.top * l.bottom)
chained v v' m u l pos h g k =
    omega (arith, mul-le-mul_right l.bottom h, mul-lt-mul_of_pos_right g pos, mul-le-mul_left (suc v') k)

-- The rule leaves one number: v ≤ m / Up(k) ≤ m / Low(j) < v' + 1.
pub whole_part_unique : (m : ℕ) (q : Fraction) (v v' : ℕ) → 0 < q.bottom → WholePart m q v → WholePart m q v' → v ≡ v'
whole_part_unique m q v v' pos h h' = le_antisymm (at_most v v' h h') (at_most v' v h' h)
  where
    at_most : (v v' : ℕ) → WholePart m q v → WholePart m q v' → v ≤ v'
    at_most v v' h h' =
        let u = up q h.k in
        let l = low q h'.j in
        le_of_suc-le-suc
        (lt_of_mul-lt-mul_right (u.top * l.bottom)
        (chained v v' m u l (up_bottom_pos q pos h.k)
        (product_at_most v m u h.at_most)
        (product_above_lem (suc v') m l (rw add-one at h'.next_above))
        (low_at_most_up q pos h'.j h.k h.admitted)))
