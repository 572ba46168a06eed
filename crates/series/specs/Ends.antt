-- 01, "The formula and its series" (d374 paragraphs 84 and 86, CRE41), and 02, S-6, "Both ends in the report": the ends of the raw weight, and which whole numbers pass, where K and p are at least
-- 1, D is above K and A is below D. A is the attachment point, D the detachment point and K the pool charge, in millionths; p is the supervisory parameter,
-- in millionths too. A weight is counted in hundredths of a percent, so 1250% is 125,000.
use Rattle.std.specs.Prelude.{ℕ, ◌*◌, ◌-◌}
use Rattle.series.specs.Fraction.{Fraction, over, plus, times, divided_by, inverse, whole, AtMost, Below}
use Rattle.series.specs.Series.{low, up, Admitted}

-- "s = p × K" (the product of two numbers in millionths, as a number of millionths)
abbrev pub scale : ℕ → ℕ → Fraction
scale K p = over (p * K) 1000000

-- l / s, with "l = max(A − K, 0)"
abbrev pub lower_exponent : ℕ → ℕ → ℕ → Fraction
lower_exponent A K p = divided_by (whole (A - K)) (scale K p)

-- u / s, with "u = D − K"
abbrev pub upper_exponent : ℕ → ℕ → ℕ → Fraction
upper_exponent D K p = divided_by (whole (D - K)) (scale K p)

-- The difference minuend − subtrahend of two fractions, kept apart: it may be below 0.
pub record Difference : Type 0 where
  pub minuend : Fraction
  pub subtrahend : Fraction

-- 125,000 × x / (D − A)
abbrev pub per_thickness : ℕ → ℕ → Fraction → Fraction
per_thickness A D x = divided_by (times (whole 125000) x) (whole (D - A))

-- "125,000 × (max(K − A, 0) + s × (e^(−l/s) − e^(−u/s))) / (D − A)", with e for e^(−l/s) and f for e^(−u/s)
abbrev pub weight_with : ℕ → ℕ → ℕ → ℕ → Fraction → Fraction → Difference
weight_with A D K p e f = record {
  minuend = per_thickness A D (plus (whole (K - A)) (times (scale K p) e));
  subtrahend = per_thickness A D (times (scale K p) f);
}

-- "e^(−q) lies between 1/Up and 1/Low. The raw weight's upper end for k takes the larger bound for e^(−l/s) and the smaller for e^(−u/s);
abbrev pub upper_end : ℕ → ℕ → ℕ → ℕ → ℕ → Difference
upper_end A D K p k = weight_with A D K p (inverse (low (lower_exponent A K p) k)) (inverse (up (upper_exponent D K p) k))

-- its lower end takes them the other way round."
abbrev pub lower_end : ℕ → ℕ → ℕ → ℕ → ℕ → Difference
lower_end A D K p k = weight_with A D K p (inverse (up (lower_exponent A K p) k)) (inverse (low (upper_exponent D K p) k))

-- an end at most the whole number w: minuend ≤ w + subtrahend
abbrev pub EndAtMost : Difference → ℕ → Type 0
EndAtMost e w = AtMost e.minuend (plus (whole w) e.subtrahend)

-- an end more than the whole number w minus 2: w + subtrahend < minuend + 2
abbrev pub EndAboveMinusTwo : Difference → ℕ → Type 0
EndAboveMinusTwo e w = Below (plus (whole w) e.subtrahend) (plus e.minuend (whole 2))

-- an end at least the whole number w: w + subtrahend ≤ minuend
abbrev pub EndAtLeast : Difference → ℕ → Type 0
EndAtLeast e w = AtMost (plus (whole w) e.subtrahend) e.minuend

-- an end less than the whole number w plus 1.5: minuend < w + 1.5 + subtrahend
abbrev pub EndBelowPlusOneAndAHalf : Difference → ℕ → Type 0
EndBelowPlusOneAndAHalf e w = Below e.minuend (plus (plus (whole w) (over 3 2)) e.subtrahend)

-- one end at most another
abbrev pub DifferenceAtMost : Difference → Difference → Type 0
DifferenceAtMost x y = AtMost (plus x.minuend y.subtrahend) (plus y.minuend x.subtrahend)

-- "A k counts only where it is admitted for both."
pub record Counts (A D K p k : ℕ) : Type 0 where
  pub at_l : Admitted (lower_exponent A K p) k
  pub at_u : Admitted (upper_exponent D K p) k

-- w passes: "some k has its upper end at most that raw weight and its lower end more than that raw weight minus 2."
pub record Passes (A D K p w : ℕ) : Type 0 where
  pub k : ℕ
  pub counts : Counts A D K p k
  pub upper : EndAtMost (upper_end A D K p k) w
  pub lower : EndAboveMinusTwo (lower_end A D K p k) w

-- w passes from below: S-6: "a whole number that is at most the exact raw weight and less than one and a half below it (some k has its lower end at least that number and its
-- upper end less than the number plus 1.5)". Its k need not be the one by which a number passes above.
pub record PassesFromBelow (A D K p w : ℕ) : Type 0 where
  pub k : ℕ
  pub counts : Counts A D K p k
  pub lower : EndAtLeast (lower_end A D K p k) w
  pub upper : EndBelowPlusOneAndAHalf (upper_end A D K p k) w
