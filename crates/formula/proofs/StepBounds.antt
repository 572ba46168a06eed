-- How large the steps of FixedPoint.antt get, so that the code stays within 64 bits. No axioms.
use Prim.Native.Nat.{ℕ, ◌+◌, ◌*◌, ◌-◌, ◌^◌, ◌/◌, ◌%◌, ◌≤◌, ◌<◌, max}
use native.Mathlib.Nat.{le_of_lt, mul-le-mul, mul-le-mul_left, mul-le-mul_right, min-le_left}
use native.Mathlib.Omega.{arith}
use Rattle.series.specs.TableEntry.{entry}
use Rattle.formula.specs.FixedPoint.{product_distance, coarse_decay, fine_decay, decay_below, decay_above, mean_decay_above, product_above}
use Rattle.series.proofs.EntryBounds.{entry_at_most}

-- ---- decays

pub square_at_most : (j : ℕ) → j < 2 ^ 22 → j * j ≤ 2 ^ 22 * j
square_at_most j h = mul-le-mul_right j (le_of_lt h)

-- what a fine decay takes off its entry, before the division by 2^32
pub fine_fall_at_most : (m j : ℕ) → j < 2 ^ 22 → entry m 1024 * (j - j * j / 2 ^ 33) ≤ 2 ^ 54
fine_fall_at_most m j h = mul-le-mul {n₂ = 2 ^ 32} {m₂ = 2 ^ 22} (entry_at_most m 1024) (omega arith)

pub fine_decay_at_most : (m j : ℕ) → fine_decay m j ≤ 2 ^ 32 - 4
unfolding fine_decay
fine_decay_at_most m j = omega (arith, entry_at_most m 1024)

pub coarse_decay_at_most : (n : ℕ) → coarse_decay n ≤ 2 ^ 32
coarse_decay_at_most n = omega (arith, mul-le-mul (entry_at_most (n / 16) 1) (entry_at_most (n % 16) 16))

-- a decay from below, before the division by 2^32
pub decays_at_most : (n m j : ℕ) → coarse_decay n * fine_decay m j ≤ 2 ^ 32 * (2 ^ 32 - 4)
decays_at_most n m j = mul-le-mul (coarse_decay_at_most n) (fine_decay_at_most m j)

pub decay_below_at_most : (x : ℕ) → decay_below x ≤ 2 ^ 32
unfolding decay_below
decay_below_at_most x = omega (arith, decays_at_most (x / 2 ^ 28) (x % 2 ^ 28 / 2 ^ 22) (x % 2 ^ 28 % 2 ^ 22))

pub decay_above_at_most : (x : ℕ) → decay_above x ≤ 2 ^ 32
unfolding decay_above
decay_above_at_most x = omega arith

-- ---- mean decays and products

pub mean_decay_above_at_most : (x : ℕ) → mean_decay_above x ≤ 2 ^ 27
unfolding mean_decay_above
mean_decay_above_at_most x = min-le_left (2 ^ 27) _

-- a product, before the division by 2^32
pub decay_and_mean_at_most : (l x : ℕ) → decay_above l * mean_decay_above x ≤ 2 ^ 59
decay_and_mean_at_most l x = mul-le-mul {n₂ = 2 ^ 32} {m₂ = 2 ^ 27} (decay_above_at_most l) (mean_decay_above_at_most x)

pub product_above_at_most : (l x : ℕ) → product_above l x ≤ 2 ^ 27
unfolding product_above
product_above_at_most l x = omega (arith, decay_and_mean_at_most l x)

-- ---- the formula

-- max(K − A, 0) + v × product is at most D − A, since max(K − A, 0) + v is and the product u is at most 1
pub sum_at_most : (A D K u : ℕ) → A < D → K < D → u ≤ 2 ^ 27 → (K - A) * 2 ^ 27 + (D - max A K) * u ≤ (D - A) * 2 ^ 27
sum_at_most A D K u a k h = omega (arith, mul-le-mul_left (D - max A K) h)

-- what the low numerator has less than the high one: the ends P and Q of the product are at most product_distance apart, and 125,000 times that is below 2^27
pub less_at_most :
    (A D K P Q : ℕ) → A < D → K < D → Q ≤ P → P ≤ Q + product_distance →
    (125000 * ((D - max A K) * (P - Q)) ≤ 125000 * ((K - A) * 2 ^ 27 + (D - max A K) * P)) ×
    (125000 * ((D - max A K) * (P - Q)) ≤ (D - A) * 2 ^ 27)
less_at_most A D K P Q a k low near =
    let apart : P - Q ≤ product_distance = omega arith in
    let part : P - Q ≤ P = omega arith in
    (omega (arith, mul-le-mul_left (D - max A K) part), omega (arith, mul-le-mul_left (D - max A K) apart))
