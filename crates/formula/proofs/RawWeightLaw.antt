-- Demand 3 and S-6 of the raw weight: where K and p are at least 1, D is above K and A is below D, the high number that the fixed-point steps compute passes and is at most 125,000, the
-- low one passes from below, and the two are at most 2 apart. No axioms.
use mathlib.Core.Bool.{Bool, true, false}
use mathlib.Core.Path.{◌≡◌, refl, subst}
use Prim.Native.Nat.{ℕ, suc, ◌+◌, ◌*◌, ◌-◌, ◌^◌, max, ◌≤◌, ◌<◌}
use native.Mathlib.Nat.{mul-pos, mul-le-mul_left, div-mul-le_self, lt-div-mul-add, lt_of_mul-lt-mul_right, le_of_suc-le-suc, ne_of_gt}
use native.Mathlib.Omega.{arith}
use borrow.Author.Tests.{le-leb, lt-leb, eq-eqb, ne_eqb}
use Rattle.numbers.specs.BothEnds.{both, EndsWithin}
use Rattle.numbers.specs.declared.Ends.{Ends}
use Rattle.numbers.proofs.RoundingLaws.{rounded_up_between}
use Rattle.series.specs.Fraction.{Fraction, over}
use Rattle.series.specs.Series.{low, up}
use Rattle.series.specs.Ends.{Counts, Passes, PassesFromBelow}
use Rattle.formula.specs.Formula.{WithinLimits, weighing, refusing, unnumbered, IsRawWeight}
use Rattle.formula.specs.FixedPoint.{product_distance, product, units, formula_product, weight_numerator, formula_weight, within_limits, raw_weight}
use Rattle.formula.proofs.Limits.{limits_of_test, test_of_limits}
use Rattle.series.proofs.SeriesLaws.{low_top_pos, up_top_pos}
use Rattle.series.proofs.DecayBounds.{not_above_smaller, not_below_larger}
use Rattle.series.proofs.Gap.{Gap, gap_at_some_k}
use Rattle.series.proofs.GapToEnds.{end_at_most_lem, end_above, end_at_least_lem, end_below}
use Rattle.series.proofs.EndLaws.{from_below_at_most}
use Rattle.formula.proofs.StepEndsLaw.{decay_ends, mean_decay_ends, product_ends}
use Rattle.formula.proofs.StepBounds.{product_above_at_most}

-- a quotient is at least its whole units and less than one unit more
module _ (a b : ℕ) (b_pos : 0 < b) where
  units_least : units a b * (1 * b) ≤ a * 2 ^ 32
  unfolding units
  units_least = omega (arith, div-mul-le_self (a * 2 ^ 32) b)

  units_most : a * 2 ^ 32 < suc (units a b) * (1 * b)
  unfolding units
  units_most = omega (arith, lt-div-mul-add {a = a * 2 ^ 32} b_pos)

module _ (A D K p : ℕ) (K-pos : 0 < K) (p-pos : 0 < p) (above : K < D) (thick : A < D) where
  abbrev b : ℕ
  b = p * K

  abbrev v : ℕ
  v = D - max A K

  abbrev lower : ℕ
  lower = (A - K) * 1000000

  abbrev width : ℕ
  width = v * 1000000

  -- l / s and u / s
  abbrev lower_fraction : Fraction
  lower_fraction = over lower (1 * b)

  abbrev upper_fraction : Fraction
  upper_fraction = over ((D - K) * 1000000) (1 * b)

  -- the product's ends, and the weight's
  abbrev ends : Ends
  ends = product (units lower b) (units width b)

  abbrev w : Ends
  w = formula_weight A D K p

  b_pos : 0 < b
  b_pos = mul-pos p-pos K-pos

  bottom_pos : 0 < 1 * b
  bottom_pos = omega (arith, b_pos)

  upper_sum : lower + width ≡ (D - K) * 1000000
  upper_sum = omega arith

  thickness : (K - A) + v ≡ D - A
  thickness = omega arith

  gap : (k : ℕ) × Gap lower width (lower + width) (1 * b) ends.high ends.low k
  gap =
      let decayed = decay_ends (units lower b) in
      let mean = mean_decay_ends (units width b) in
      let whole = product_ends (units lower b) (units width b) in
      let least = units_least width b b_pos in
      let most = units_most width b b_pos in
      gap_at_some_k lower width (1 * b) bottom_pos ends.high ends.low (omega arith)
      (not_above_smaller lower_fraction (over (suc (units lower b)) (2 ^ 32)) (omega arith)
      (omega (arith, units_most lower b b_pos)) decayed.low)
      (not_below_larger (over (units lower b) (2 ^ 32)) lower_fraction (omega arith)
      (units_least lower b b_pos) decayed.high)
      (mean.high width (1 * b) (omega arith) bottom_pos least most)
      (mean.low width (1 * b) (omega arith) bottom_pos least most)
      whole.high
      whole.low

  upper_gap : Gap lower width ((D - K) * 1000000) (1 * b) ends.high ends.low gap.0
  upper_gap = subst (λ (u : ℕ). Gap lower width u (1 * b) ends.high ends.low gap.0) upper_sum gap.1

  counted : Counts A D K p gap.0
  counted = record { at_l = upper_gap.admitted_l; at_u = upper_gap.admitted_u }

  -- the high number is the numerator of the high end over the thickness, rounded up,
  rounded_up_lem :
      (weight_numerator A D K ends.high ≤ w.high * ((D - A) * 2 ^ 27)) ×
      (w.high * ((D - A) * 2 ^ 27) < weight_numerator A D K ends.high + (D - A) * 2 ^ 27)
  unfolding formula_weight formula_product
  rounded_up_lem =
      let between = rounded_up_between (weight_numerator A D K ends.high) ((D - A) * 2 ^ 27) (omega arith) in
      (omega (arith, between.0), omega (arith, between.1))

  -- and the low number that of the low end, rounded down
  rounded_down :
      (w.low * ((D - A) * 2 ^ 27) ≤ weight_numerator A D K ends.low) ×
      (weight_numerator A D K ends.low < w.low * ((D - A) * 2 ^ 27) + (D - A) * 2 ^ 27)
  unfolding formula_weight formula_product
  rounded_down =
      let n = weight_numerator A D K ends.low in
      let m = (D - A) * 2 ^ 27 in
      (omega (arith, div-mul-le_self n m), omega (arith, lt-div-mul-add {a = n} {b = m} (omega arith)))

  -- The product's ends are at most product_distance apart, also where the low one is taken as 0, and product_distance × 125,000 is below 2^25: so the two numerators are less than a
  -- quarter of the thickness apart.
  numerators_near : 4 * weight_numerator A D K ends.high < 4 * weight_numerator A D K ends.low + (D - A) * 2 ^ 27
  unfolding weight_numerator
  numerators_near = core ends.high ends.low (D - A) (K - A) v (omega arith) thickness (omega arith)
    where
      core : (P Q m t v : ℕ) → P ≤ Q + product_distance → t + v ≡ m → 0 < m →
          4 * (125000 * (t * 2 ^ 27 + v * P)) < 4 * (125000 * (t * 2 ^ 27 + v * Q)) + m * 2 ^ 27
      core P Q m t v h e m-pos = omega (arith, mul-le-mul_left v h)

  -- The high number passes: it is less than 2 above what the product's low end gives.
  pub formula_passes : Passes A D K p w.high
  unfolding weight_numerator
  formula_passes =
      let k = gap.0 in
      record {
        k = k;
        counts = counted;
        upper = end_at_most_lem (K - A) (D - A) b v w.high ends.high (low lower_fraction k) (up upper_fraction k) upper_gap.high rounded_up_lem.0;
        lower = end_above (K - A) (D - A) b v w.high ends.low (up lower_fraction k) (low upper_fraction k) (omega arith)
            (up_top_pos lower_fraction bottom_pos k) (low_top_pos upper_fraction bottom_pos k) upper_gap.least
            (omega (arith, rounded_up_lem.1, numerators_near));
      }

  -- The low number passes from below: what the product's high end gives is less than 1.5 above it.
  pub formula_passes_from_below : PassesFromBelow A D K p w.low
  unfolding weight_numerator
  formula_passes_from_below =
      let k = gap.0 in
      record {
        k = k;
        counts = counted;
        lower = end_at_least_lem (K - A) (D - A) b v w.low ends.low (up lower_fraction k) (low upper_fraction k) upper_gap.least rounded_down.0;
        upper = end_below (K - A) (D - A) b v w.low ends.high (low lower_fraction k) (up upper_fraction k) (omega arith)
            (low_top_pos lower_fraction bottom_pos k) (up_top_pos upper_fraction bottom_pos k) upper_gap.high
            (omega (arith, rounded_down.1, numerators_near));
      }

  -- The high number is at most 125,000, since the product is at most 2^27.
  pub formula_at_most : w.high ≤ 125000
  unfolding weight_numerator
  formula_at_most = core (K - A) v (D - A) ends.high thickness (omega arith) (product_above_at_most (units lower b) (units width b)) rounded_up_lem.1
    where
      core : (t v m P : ℕ) → t + v ≡ m → 0 < m → P ≤ 2 ^ 27 → w.high * (m * 2 ^ 27) < 125000 * (t * 2 ^ 27 + v * P) + m * 2 ^ 27 → w.high ≤ 125000
      core t v m P e m-pos P-most g =
          le_of_suc-le-suc (lt_of_mul-lt-mul_right (m * 2 ^ 27) {m = w.high} {n = 125001} (omega (arith, mul-le-mul_left v P-most)))

  -- The low number is not above the high one, as the rules alone have it, and at most 2 below it, where they would allow 3 (`from_below_near`, EndLaws.antt of `series`).
  pub formula_within : EndsWithin 2 w
  formula_within = record {
    ordered = from_below_at_most A D K p K-pos p-pos thick w.low w.high formula_passes_from_below formula_passes;
    near = le_of_suc-le-suc
        (lt_of_mul-lt-mul_right ((D - A) * 2 ^ 27) {m = w.high} {n = suc (w.low + 2)}
        (omega (arith, rounded_up_lem.1, rounded_down.1, numerators_near)));
  }

-- ---- the raw weight on all inputs

module _ (A D K p : ℕ) where
  outside_limits : (t : Bool) → within_limits A D K p ≡ t → (WithinLimits A D K p → ⊥) → raw_weight A D K p ≡ unnumbered
  unfolding raw_weight
  outside_limits true e h = absurd (h (limits_of_test A D K p e))
  outside_limits false e h = simp e

  within_charge : WithinLimits A D K p → D ≤ K → raw_weight A D K p ≡ weighing (both 125000)
  unfolding raw_weight
  within_charge l h = simp (test_of_limits A D K p l, le-leb D K h)

  charge_zero : WithinLimits A D K p → K < D → K ≡ 0 → raw_weight A D K p ≡ weighing (both 0)
  unfolding raw_weight
  charge_zero l h z = simp (test_of_limits A D K p l, lt-leb D K h, eq-eqb K 0 z)

  no_thickness : WithinLimits A D K p → K < D → 1 ≤ K → D ≤ A → raw_weight A D K p ≡ refusing 13
  unfolding raw_weight
  no_thickness l h one t = simp (test_of_limits A D K p l, lt-leb D K h, ne_eqb K 0 (ne_of_gt one), le-leb D A t)

  pub under_formula : WithinLimits A D K p → K < D → 1 ≤ K → A < D → raw_weight A D K p ≡ weighing (formula_weight A D K p)
  unfolding raw_weight
  under_formula l h one t = simp (test_of_limits A D K p l, lt-leb D K h, ne_eqb K 0 (ne_of_gt one), lt-leb D A t)

  -- raw_weight keeps IsRawWeight on all inputs.
  pub raw_weight_is : IsRawWeight A D K p (raw_weight A D K p)
  raw_weight_is = record {
    outside = outside_limits (within_limits A D K p) refl;
    within_charge = within_charge;
    charge_zero = charge_zero;
    no_thickness = no_thickness;
    formula = λ l h one t. record {
      weight = formula_weight A D K p;
      answered = under_formula l h one t;
      passes = formula_passes A D K p one (omega (arith, l.parameter_least)) h t;
      at_most = formula_at_most A D K p one (omega (arith, l.parameter_least)) h t;
      passes_from_below = formula_passes_from_below A D K p one (omega (arith, l.parameter_least)) h t;
    };
  }
