-- e^(−x) against 1 − x + x² / 2 and 1 − x + x² / 2 − x³ / 3, by Low(2) and Up(2), for x = a / b. No axioms.
use mathlib.Core.Path.{◌≡◌, ap}
use Prim.Native.Nat.{ℕ, ◌+◌, ◌*◌, ◌-◌, ◌≤◌, ◌<◌}
use native.Mathlib.Nat.{pow-zero, pow-suc, mul-le-mul_left, mul-le-mul_right, sub-add_cancel}
use native.Mathlib.Omega.{arith}
use Rattle.series.specs.Fraction.{over}
use Rattle.series.specs.Series.{factorial, low, up}
use Rattle.series.proofs.Numbers.{difference_of_squares}
use Rattle.series.specs.Bounds.{NotAbove, NotBelow}
use Rattle.series.proofs.DecayBounds.{not_above_by_up}

module _ (a b : ℕ) where
  low_two_top : (low (over a b) 2).top ≡ b * (2 * (b * b) + 2 * (a * b) + a * a)
  unfolding low factorial
  low_two_top = simp (pow-zero, pow-suc a 0, pow-suc a 1, pow-suc b 0, pow-suc b 1) (omega arith)

  low_two_bottom : (low (over a b) 2).bottom ≡ 2 * (b * (b * b))
  unfolding low factorial
  low_two_bottom = simp (pow-zero, pow-suc b 0, pow-suc b 1) (omega arith)

  -- 2 b² (1 − x + x² / 2)
  abbrev pub second : ℕ
  second = 2 * (b * b) + a * a - 2 * (a * b)

  pub second_equation : a ≤ b → second + 2 * (a * b) ≡ 2 * (b * b) + a * a
  second_equation h = sub-add_cancel (omega (arith, mul-le-mul_right b h))

  -- 1 − x + x² / 2 is at least e^(−x): times Low(2) it is 1 + x⁴ / 4
  pub second_not_below : a ≤ b → NotBelow second (2 * (b * b)) (over a b)
  second_not_below h = record {
    some_k = 2;
    holds = rw (low_two_top, low_two_bottom)
        (omega (arith, ap (λ (t : ℕ). b * t) (difference_of_squares second _ _ (second_equation h))));
  }

  up_two_top : (up (over a b) 2).top ≡ 2 * (b * (b * b)) * (6 * (b * (b * b)) + 3 * (a * (a * b)) + (6 * (a * (b * b)) + 2 * (a * (a * a))))
  unfolding factorial
  up_two_top =
      rw (low_two_top, low_two_bottom)
      (simp (pow-zero, pow-suc a 0, pow-suc a 1, pow-suc a 2, pow-suc b 0, pow-suc b 1, pow-suc b 2) (omega arith))

  up_two_bottom : (up (over a b) 2).bottom ≡ 2 * (b * (b * b)) * (6 * (b * (b * b)))
  unfolding factorial
  up_two_bottom = rw low_two_bottom (simp (pow-zero, pow-suc b 0, pow-suc b 1, pow-suc b 2) (omega arith))

  -- 6 b³ (1 − x + x² / 2 − x³ / 3)
  abbrev pub third : ℕ
  third = 6 * (b * (b * b)) + 3 * (a * (a * b)) - (6 * (a * (b * b)) + 2 * (a * (a * a)))

  pub third_equation : a ≤ b → third + (6 * (a * (b * b)) + 2 * (a * (a * a))) ≡ 6 * (b * (b * b)) + 3 * (a * (a * b))
  third_equation h = sub-add_cancel (omega (arith, mul-le-mul_right (b * b) h, mul-le-mul_left (a * a) h))

  -- 1 − x + x² / 2 − x³ / 3 is at most e^(−x), for x at most 1: times Up(2) it is 1 − 5 x⁴ / 12 − x⁶ / 9
  pub third_not_above : 0 < b → a ≤ b → NotAbove third (6 * (b * (b * b))) (over a b)
  third_not_above pos h =
      not_above_by_up (over a b) pos third (6 * (b * (b * b))) 2 (omega arith)
      (rw (up_two_top, up_two_bottom) (omega (arith, mul-le-mul_left (2 * (b * (b * b))) product)))
    where
      product : third * (6 * (b * (b * b)) + 3 * (a * (a * b)) + (6 * (a * (b * b)) + 2 * (a * (a * a)))) ≤ 6 * (b * (b * b)) * (6 * (b * (b * b)))
      product = omega (arith, difference_of_squares third _ _ (third_equation h))
