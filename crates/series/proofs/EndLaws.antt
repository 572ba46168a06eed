-- No lower end of a counted k passes an upper end of a counted k, so two whole numbers that pass differ by at most 1, and so do two that pass from below; and a number that passes from
-- below is never above one that passes, and at most 3 below it. No axioms.
use mathlib.Core.Path.{◌≡◌}
use Prim.Native.Nat.{ℕ, suc, ◌+◌, ◌*◌, ◌-◌, ◌≤◌, ◌<◌}
use native.Mathlib.Nat.{le_refl, mul-pos, mul-le-mul_right, mul-lt-mul_of_pos_right, le_of_mul-le-mul_right, lt_of_mul-lt-mul_right, zero-lt-suc}
use native.Mathlib.Omega.{arith}
use Rattle.series.specs.Fraction.{Fraction, inverse, whole, AtMost}
use Rattle.series.specs.Series.{low, up}
use Rattle.series.specs.Ends.{scale, lower_exponent, upper_exponent, Difference, per_thickness, weight_with, upper_end, lower_end, EndAtMost, EndAboveMinusTwo, EndAtLeast, EndBelowPlusOneAndAHalf, DifferenceAtMost, Counts, Passes, PassesFromBelow}
use Rattle.series.proofs.FractionLaws.{plus_at_most_plus, times_at_most_times, divided_at_most_divided, inverse_at_most_inverse}
use Rattle.series.proofs.SeriesLaws.{low_top_pos, up_top_pos, low_at_most_up}

-- ---- differences

abbrev pub BottomsAboveZero : Difference → Type 0
BottomsAboveZero x = (0 < x.minuend.bottom) × (0 < x.subtrahend.bottom)

-- w' − 2 < x ≤ y ≤ w gives w' < w + 2
below_plus_two : (x y : Difference) (w w' : ℕ) → BottomsAboveZero y → DifferenceAtMost x y → EndAtMost y w → EndAboveMinusTwo x w' →
    w' < w + 2
below_plus_two x y w w' bottoms-pos between at_most above =
    let bottoms = x.minuend.bottom * x.subtrahend.bottom in
    lt_of_mul-lt-mul_right (bottoms * (y.minuend.bottom * y.subtrahend.bottom))
    (omega (arith, mul-le-mul_right bottoms at_most, mul-lt-mul_of_pos_right above (mul-pos bottoms-pos.0 bottoms-pos.1)))

-- v ≤ x ≤ y ≤ w gives v ≤ w
at_most_between : (x y : Difference) (v w : ℕ) → BottomsAboveZero x → BottomsAboveZero y → DifferenceAtMost x y → EndAtLeast x v → EndAtMost y w → v ≤ w
at_most_between x y v w x_pos y-pos between at_least_lem at_most =
    let x_bottoms = x.minuend.bottom * x.subtrahend.bottom in
    let y_bottoms = y.minuend.bottom * y.subtrahend.bottom in
    le_of_mul-le-mul_right {k = x_bottoms * y_bottoms}
    (omega (arith, between, mul-le-mul_right y_bottoms at_least_lem, mul-le-mul_right x_bottoms at_most))
    (mul-pos (mul-pos x_pos.0 x_pos.1) (mul-pos y-pos.0 y-pos.1))

-- v ≤ x ≤ y < w + 1.5 gives v ≤ w + 1
at_most_plus_one : (x y : Difference) (v w : ℕ) → BottomsAboveZero x → DifferenceAtMost x y → EndAtLeast x v → EndBelowPlusOneAndAHalf y w → v ≤ w + 1
at_most_plus_one x y v w x_pos between at_least_lem below =
    let x_bottoms = x.minuend.bottom * x.subtrahend.bottom in
    let y_bottoms = y.minuend.bottom * y.subtrahend.bottom in
    let doubled : 2 * v < 2 * w + 3 =
    lt_of_mul-lt-mul_right (x_bottoms * y_bottoms)
    (omega (arith, between, mul-le-mul_right y_bottoms at_least_lem, mul-lt-mul_of_pos_right below (mul-pos x_pos.0 x_pos.1))) in
    omega arith

-- w − 2 < x ≤ y < v + 1.5 gives w ≤ v + 3
at_most_plus_three : (x y : Difference) (v w : ℕ) → BottomsAboveZero x → BottomsAboveZero y → DifferenceAtMost x y → EndAboveMinusTwo x w → EndBelowPlusOneAndAHalf y v → w ≤ v + 3
at_most_plus_three x y v w x_pos y-pos between above below =
    let x_bottoms = x.minuend.bottom * x.subtrahend.bottom in
    let y_bottoms = y.minuend.bottom * y.subtrahend.bottom in
    let doubled : 2 * w < 2 * v + 7 =
    lt_of_mul-lt-mul_right (x_bottoms * y_bottoms)
    (omega (
      arith,
      between,
      mul-lt-mul_of_pos_right above (mul-pos y-pos.0 y-pos.1),
      mul-lt-mul_of_pos_right below (mul-pos x_pos.0 x_pos.1),
    )) in
    omega arith

per_thickness_grows : (A D : ℕ) (x y : Fraction) → AtMost x y → AtMost (per_thickness A D x) (per_thickness A D y)
per_thickness_grows A D x y h = divided_at_most_divided _ _ (whole (D - A)) (times_at_most_times x y (whole 125000) h)

-- the weight grows with e and falls with f
weight_grows : (A D K p : ℕ) (e e' f f' : Fraction) → AtMost e e' → AtMost f' f → DifferenceAtMost (weight_with A D K p e f) (weight_with A D K p e' f')
weight_grows A D K p e e' f f' h l =
    plus_at_most_plus _ _ _ _
    (per_thickness_grows A D _ _ (plus_at_most_plus (whole (K - A)) _ _ _ (le_refl _) (times_at_most_times e e' (scale K p) h)))
    (per_thickness_grows A D _ _ (times_at_most_times f' f (scale K p) l))

-- ---- the ends

module _ (A D K p : ℕ) (K-pos : 0 < K) (p-pos : 0 < p) (thick : A < D) where
  -- the bottom of l/s and of u/s
  exponent_bottom_pos : 0 < 1 * (p * K)
  exponent_bottom_pos = mul-pos (zero-lt-suc 0) (mul-pos p-pos K-pos)

  -- No lower end of any counted k passes an upper end of any counted k': 1 / Up(k) ≤ 1 / Low(k') at l/s, and 1 / Up(k') ≤ 1 / Low(k) at u/s.
  pub lower_at_most_upper : (k k' : ℕ) → Counts A D K p k → Counts A D K p k' → DifferenceAtMost (lower_end A D K p k) (upper_end A D K p k')
  lower_at_most_upper k k' h h' =
      weight_grows A D K p _ _ _ _
      (inverse_at_most_inverse _ _ (low_at_most_up (lower_exponent A K p) exponent_bottom_pos k' k h.at_l))
      (inverse_at_most_inverse _ _ (low_at_most_up (upper_exponent D K p) exponent_bottom_pos k k' h'.at_u))

  weight_bottoms : (e f : Fraction) → 0 < e.bottom → 0 < f.bottom → BottomsAboveZero (weight_with A D K p e f)
  weight_bottoms e f e-pos f-pos =
      let thickness : 0 < D - A = omega arith in
      (omega (arith, mul-pos e-pos thickness), omega (arith, mul-pos f-pos thickness))

  -- The fractions that the ends compare are fractions: no bottom is 0.
  pub upper_bottoms : (k : ℕ) → BottomsAboveZero (upper_end A D K p k)
  upper_bottoms k =
      weight_bottoms (inverse (low (lower_exponent A K p) k)) (inverse (up (upper_exponent D K p) k))
      (omega (arith, low_top_pos (lower_exponent A K p) exponent_bottom_pos k))
      (omega (arith, up_top_pos (upper_exponent D K p) exponent_bottom_pos k))

  pub lower_bottoms : (k : ℕ) → BottomsAboveZero (lower_end A D K p k)
  lower_bottoms k =
      weight_bottoms (inverse (up (lower_exponent A K p) k)) (inverse (low (upper_exponent D K p) k))
      (omega (arith, up_top_pos (lower_exponent A K p) exponent_bottom_pos k))
      (omega (arith, low_top_pos (upper_exponent D K p) exponent_bottom_pos k))

  -- Two numbers that pass differ by at most 1.
  pub passing_close : (w w' : ℕ) → Passes A D K p w → Passes A D K p w' → w' ≤ suc w
  passing_close w w' h h' =
      let apart = lower_at_most_upper h'.k h.k h'.counts h.counts in
      omega (arith, below_plus_two _ _ w w' (upper_bottoms h.k) apart h.upper h'.lower)

  -- So no three numbers pass: the outer two would differ by at least 2,
  pub no_three_pass : (v w x : ℕ) → v < w → w < x → Passes A D K p v → Passes A D K p x → ⊥
  no_three_pass v w x h l first last = omega (arith, passing_close v x first last)

  -- and where 125,001 passes, 125,000 is the only raw weight that can.
  pub only_125000 : (w : ℕ) → w ≤ 125000 → Passes A D K p 125001 → Passes A D K p w → w ≡ 125000
  only_125000 w most top h = omega (arith, passing_close w 125001 h top)

  -- ---- from below

  -- A number that passes from below is never above one that passes,
  pub from_below_at_most : (v w : ℕ) → PassesFromBelow A D K p v → Passes A D K p w → v ≤ w
  from_below_at_most v w low high =
      at_most_between _ _ v w (lower_bottoms low.k) (upper_bottoms high.k)
      (lower_at_most_upper low.k high.k low.counts high.counts) low.lower high.upper

  -- and at most 3 below it.
  pub from_below_near : (v w : ℕ) → PassesFromBelow A D K p v → Passes A D K p w → w ≤ v + 3
  from_below_near v w low high =
      at_most_plus_three _ _ v w (lower_bottoms high.k) (upper_bottoms low.k)
      (lower_at_most_upper high.k low.k high.counts low.counts) high.lower low.upper

  -- Two numbers that pass from below differ by at most 1.
  pub from_below_close : (v w : ℕ) → PassesFromBelow A D K p v → PassesFromBelow A D K p w → v ≤ suc w
  from_below_close v w h h' =
      omega (
        arith,
        at_most_plus_one _ _ v w (lower_bottoms h.k)
            (lower_at_most_upper h.k h'.k h.counts h'.counts) h.lower h'.upper,
      )
