-- Laws of a quotient rounded up: it is the least whole number that times the divisor is no less than the dividend, and at most one above the same quotient rounded down. No axioms.
use mathlib.Core.Logic.{⊎_elim}
use mathlib.Core.Path.{◌≡◌}
use Prim.Native.Nat.{ℕ, ◌+◌, ◌*◌, ◌-◌, ◌/◌, ◌≤◌, ◌<◌}
use native.Mathlib.Nat.{eq-zero-or-pos, le_trans, le_of_mul-le-mul_right, lt_of_mul-lt-mul_right, div-zero, div-eq_of_lt-le, div-mul-le_self, lt-div-mul-add}
use native.Mathlib.Omega.{arith}
use Rattle.numbers.specs.Rounding.{rounded_up}
use Rattle.numbers.specs.BothEnds.{rounded, EndsWithin}

pub rounded_up_at_least : (x y : ℕ) → 0 < y → x ≤ rounded_up x y * y
rounded_up_at_least x y pos = omega (arith, lt-div-mul-add {a = x + (y - 1)} pos)

pub rounded_up_below : (x y : ℕ) → 0 < y → rounded_up x y * y < x + y
rounded_up_below x y pos = omega (arith, div-mul-le_self (x + (y - 1)) y)

pub rounded_up_between : (x y : ℕ) → 0 < y → (x ≤ rounded_up x y * y) × (rounded_up x y * y < x + y)
rounded_up_between x y pos = (rounded_up_at_least x y pos, rounded_up_below x y pos)

-- the one number q with x ≤ q × y < x + y
pub rounded_up_is : (x y q : ℕ) → 0 < y → x ≤ q * y → q * y < x + y → rounded_up x y ≡ q
rounded_up_is x y q pos least most = div-eq_of_lt-le {k = q} y {m = x + (y - 1)} (omega arith) (omega arith)

pub rounded_up_by_zero : (x : ℕ) → rounded_up x 0 ≡ 0
rounded_up_by_zero x = div-zero (x + (0 - 1))

pub rounded_up_at_most : (x y m : ℕ) → x ≤ m * y → rounded_up x y ≤ m
rounded_up_at_most x y m h =
    ⊎_elim
    (λ e. rw e (omega (arith, rounded_up_by_zero x)))
    (λ pos.
    let below : rounded_up x y < m + 1 = lt_of_mul-lt-mul_right y (omega (arith, rounded_up_below x y pos)) in
    omega arith)
    (eq-zero-or-pos y)

pub rounded_up_monotone : (x z y : ℕ) → x ≤ z → rounded_up x y ≤ rounded_up z y
rounded_up_monotone x z y h =
    ⊎_elim
    (λ e. rw e (omega (arith, rounded_up_by_zero x)))
    (λ pos. rounded_up_at_most x y (rounded_up z y) (le_trans h (rounded_up_at_least z y pos)))
    (eq-zero-or-pos y)

pub rounded_up_exact : (m y : ℕ) → 0 < y → rounded_up (m * y) y ≡ m
rounded_up_exact m y pos = rounded_up_is (m * y) y m pos (omega arith) (omega arith)

pub rounded_up_zero : (y : ℕ) → rounded_up 0 y ≡ 0
rounded_up_zero y = omega (arith, rounded_up_at_most 0 y 0 (omega arith))

pub rounded_up_same : (x y m n : ℕ) → x ≡ m → y ≡ n → rounded_up x y ≡ rounded_up m n
rounded_up_same x y m n e f = rw (e, f)

-- rounded down and rounded up it is at most one apart
pub rounded_within : (x y : ℕ) → EndsWithin 1 (rounded x y)
rounded_within x y =
    ⊎_elim
    (λ e. rw e (record { ordered = omega (arith, rounded_up_by_zero x, div-zero x); near = omega (arith, rounded_up_by_zero x) }))
    (λ pos. record {
      ordered = le_of_mul-le-mul_right {k = y} (le_trans (div-mul-le_self x y) (rounded_up_at_least x y pos)) pos;
      near = rounded_up_at_most x y (x / y + 1) (omega (arith, lt-div-mul-add {a = x} pos));
    })
    (eq-zero-or-pos y)
