-- decay_below x is at most 2^32 × e^(−x), also for an exponent up to one unit larger, and at most decay_distance below it. No axioms.
use mathlib.Core.Path.{◌≡◌, ap}
use Prim.Native.Nat.{ℕ, suc, ◌+◌, ◌*◌, ◌-◌, ◌^◌, ◌/◌, ◌%◌, ◌≤◌, ◌<◌}
use native.Mathlib.Nat.{mul-le-mul, mul-le-mul_left, mul-le-mul_right}
use native.Mathlib.Omega.{arith}
use Rattle.series.specs.Fraction.{Fraction, over}
use Rattle.series.specs.TableEntry.{entry}
use Rattle.formula.specs.FixedPoint.{decay_distance, coarse_decay, fine_decay, decay_below}
use Rattle.series.specs.Bounds.{NotAbove, NotBelow}
use Rattle.series.proofs.DecayBounds.{not_above_weaker, not_below_weaker, not_above_smaller, not_below_larger, not_above_product, not_below_product}
use Rattle.series.proofs.Rest.{second_equation, second_not_below, third, third_equation, third_not_above}
use Rattle.series.proofs.Entries.{entry_not_below, whole_entry_not_above, sixteenth_entry_not_above, fine_entry_not_above}
use Rattle.series.proofs.EntryBounds.{entry_at_most, fine_entry_at_least}
use Rattle.formula.proofs.StepBounds.{coarse_decay_at_most, square_at_most, fine_fall_at_most}

-- the same bound over a scale that is t times smaller
module _ {c : ℕ} {q : Fraction} (c' s t : ℕ) (pos : 0 < s * t) where
  not_above_rescaled : c' * t ≤ c → NotAbove c (s * t) q → NotAbove c' s q
  not_above_rescaled h = not_above_weaker c' s pos (omega (arith, mul-le-mul_right s h))

  not_below_rescaled : c ≤ c' * t → NotBelow c (s * t) q → NotBelow c' s q
  not_below_rescaled h = not_below_weaker c' s pos (omega (arith, mul-le-mul_right s h))

-- ---- the rest: r = j / 2^32, below 2^−10

-- b − y − 3 is at most b (1 − a / b + a² / 2 b² − a³ / 3 b³), with a = j + 1, y = j − square and square at most j² / 2 b
below_third : (b j square y c third : ℕ) → 2 * (b * square) ≤ j * j → y + square ≡ j → c + (y + 3) ≡ b →
    suc j * (suc j * suc j) ≤ 6 * (b * b) →
    third + (6 * (suc j * (b * b)) + 2 * (suc j * (suc j * suc j))) ≡ 6 * (b * (b * b)) + 3 * (suc j * (suc j * b)) →
    c * (6 * (b * b)) ≤ third
below_third b j square y c third h e f g t =
    omega
    (arith, mul-le-mul_left (3 * b) h, ap (λ (x : ℕ). 6 * (b * b) * x) e, ap (λ (x : ℕ). 6 * (b * b) * x) f)

module _ (j : ℕ) (small : j < 2 ^ 22) where
  -- j − j² / 2^33, the square rounded down
  abbrev drop : ℕ
  drop = j - j * j / 2 ^ 33

  rest_not_below : NotBelow (2 ^ 32 + 1 - drop) (2 ^ 32) (over j (2 ^ 32))
  rest_not_below =
      not_below_rescaled (2 ^ 32 + 1 - drop) (2 ^ 32) (2 ^ 33) (omega arith)
      (omega (arith, square_at_most j small, second_equation j (2 ^ 32) (omega arith)))
      (second_not_below j (2 ^ 32) (omega arith))

  cube_small : suc j * (suc j * suc j) ≤ 2 ^ 66
  cube_small = mul-le-mul {n₁ = suc j} {n₂ = 2 ^ 22} (omega arith) (mul-le-mul {n₁ = suc j} {n₂ = 2 ^ 22} {m₂ = 2 ^ 22} (omega arith) (omega arith))

  rest_not_above : NotAbove (2 ^ 32 - drop - 3) (2 ^ 32) (over (suc j) (2 ^ 32))
  rest_not_above =
      not_above_rescaled (2 ^ 32 - drop - 3) (2 ^ 32) (6 * 2 ^ 64) (omega arith)
      (below_third (2 ^ 32) j (j * j / 2 ^ 33) drop (2 ^ 32 - drop - 3) (third (suc j) (2 ^ 32))
      (omega arith) (omega (arith, square_at_most j small)) (omega arith) (omega (arith, cube_small))
      (third_equation (suc j) (2 ^ 32) (omega arith)))
      (third_not_above (suc j) (2 ^ 32) (omega arith) (omega arith))

-- ---- the fine entry and the rest: (m / 1024) + r

-- t (b − y) / b is t − ⌊t y / b⌋, up to 1
fine_low : (b t y z f : ℕ) → z * b ≤ t * y → t * y < z * b + b → t ≤ b → y + 3 ≤ b → f + (z + 4) ≡ t → f * b ≤ t * (b - y - 3)
fine_low b t y z f h g u v e = core (b - y - 3) (omega arith)
  where
    core : (c : ℕ) → c + (y + 3) ≡ b → f * b ≤ t * c
    core c d = omega (arith, ap (λ (x : ℕ). x * b) e, ap (λ (x : ℕ). t * x) d)

fine_high : (b t y z f : ℕ) → z * b ≤ t * y → t ≤ b → y ≤ b → 1 ≤ b → f + (z + 4) ≡ t → (t + 1) * (b + 1 - y) ≤ (f + 7) * b
fine_high b t y z f h u v p e = core (b + 1 - y) (omega arith)
  where
    core : (c : ℕ) → c + y ≡ b + 1 → (t + 1) * c ≤ (f + 7) * b
    core c d = omega (arith, ap (λ (x : ℕ). x * b) e, ap (λ (x : ℕ). t * x) d)

module _ (m j : ℕ) (m-small : m < 64) (small : j < 2 ^ 22) where
  abbrev t : ℕ
  t = entry m 1024

  abbrev y : ℕ
  y = drop j small

  abbrev z : ℕ
  z = t * y / 2 ^ 32

  z_small : z * 2 ^ 32 ≤ 2 ^ 22 * 2 ^ 32
  z_small = omega (arith, fine_fall_at_most m j small)

  pub fine_sum : fine_decay m j + (z + 4) ≡ t
  unfolding fine_decay
  fine_sum = omega (arith, z_small, fine_entry_at_least m m-small)

  pub fine_not_above : NotAbove (fine_decay m j) (2 ^ 32) (over (m * 2 ^ 22 + suc j) (2 ^ 32))
  fine_not_above =
      not_above_rescaled (fine_decay m j) (2 ^ 32) (2 ^ 32) (omega arith)
      (fine_low (2 ^ 32) t y z (fine_decay m j) (omega arith) (omega arith) (entry_at_most m 1024) (omega arith) fine_sum)
      (not_above_product (m * 2 ^ 22) (suc j) (2 ^ 32) (omega arith)
      (not_above_smaller (over (m * 2 ^ 22) (2 ^ 32)) (over m 1024) (omega arith) (omega arith) (fine_entry_not_above m m-small))
      (rest_not_above j small))

  pub fine_not_below : NotBelow (fine_decay m j + 7) (2 ^ 32) (over (m * 2 ^ 22 + j) (2 ^ 32))
  fine_not_below =
      not_below_rescaled (fine_decay m j + 7) (2 ^ 32) (2 ^ 32) (omega arith)
      (fine_high (2 ^ 32) t y z (fine_decay m j) (omega arith) (entry_at_most m 1024) (omega arith) (omega arith) fine_sum)
      (not_below_product (m * 2 ^ 22) j (2 ^ 32) (omega arith)
      (not_below_larger (over m 1024) (over (m * 2 ^ 22) (2 ^ 32)) (omega arith) (omega arith) (entry_not_below m 1024 (omega arith)))
      (rest_not_below j small))

-- ---- the coarse decay: n / 16, cut into a whole exponent and sixteenths

module _ (n : ℕ) where
  pub coarse_not_above : NotAbove (coarse_decay n) (2 ^ 32) (over n 16)
  coarse_not_above =
      not_above_smaller (over n 16) (over (n / 16 * 16 + n % 16) 16) (omega arith) (omega arith)
      (not_above_rescaled (coarse_decay n) (2 ^ 32) (2 ^ 32) (omega arith) (omega arith)
      (not_above_product (n / 16 * 16) (n % 16) 16 (omega arith)
      (not_above_smaller (over (n / 16 * 16) 16) (over (n / 16) 1) (omega arith) (omega arith) (whole_entry_not_above (n / 16)))
      (sixteenth_entry_not_above (n % 16) (omega arith))))

  pub coarse_not_below : NotBelow (coarse_decay n + 3) (2 ^ 32) (over n 16)
  coarse_not_below =
      not_below_larger (over (n / 16 * 16 + n % 16) 16) (over n 16) (omega arith) (omega arith)
      (not_below_rescaled (coarse_decay n + 3) (2 ^ 32) (2 ^ 32) (omega arith)
      (omega (arith, entry_at_most (n / 16) 1, entry_at_most (n % 16) 16))
      (not_below_product (n / 16 * 16) (n % 16) 16 (omega arith)
      (not_below_larger (over (n / 16) 1) (over (n / 16 * 16) 16) (omega arith) (omega arith) (entry_not_below (n / 16) 1 (omega arith)))
      (entry_not_below (n % 16) 16 (omega arith))))

-- ---- both: x = n / 16 + m / 1024 + j / 2^32

module _ (x : ℕ) where
  abbrev n : ℕ
  n = x / 2 ^ 28

  abbrev m : ℕ
  m = x % 2 ^ 28 / 2 ^ 22

  abbrev j : ℕ
  j = x % 2 ^ 28 % 2 ^ 22

  m_below : m < 64
  m_below = omega arith

  j_below : j < 2 ^ 22
  j_below = omega arith

  pub decay_not_above : NotAbove (decay_below x) (2 ^ 32) (over (suc x) (2 ^ 32))
  unfolding decay_below
  decay_not_above =
      not_above_smaller (over (suc x) (2 ^ 32)) (over (n * 2 ^ 28 + (m * 2 ^ 22 + suc j)) (2 ^ 32)) (omega arith) (omega arith)
      (not_above_rescaled (decay_below x) (2 ^ 32) (2 ^ 32) (omega arith) (omega arith)
      (not_above_product (n * 2 ^ 28) (m * 2 ^ 22 + suc j) (2 ^ 32) (omega arith)
      (not_above_smaller (over (n * 2 ^ 28) (2 ^ 32)) (over n 16) (omega arith) (omega arith) (coarse_not_above n))
      (fine_not_above m j m_below j_below)))

  pub decay_not_below : NotBelow (decay_below x + decay_distance) (2 ^ 32) (over x (2 ^ 32))
  unfolding decay_below
  decay_not_below =
      not_below_larger (over (n * 2 ^ 28 + (m * 2 ^ 22 + j)) (2 ^ 32)) (over x (2 ^ 32)) (omega arith) (omega arith)
      (not_below_rescaled (decay_below x + decay_distance) (2 ^ 32) (2 ^ 32) (omega arith)
      (omega (arith, coarse_decay_at_most n, entry_at_most m 1024, fine_sum m j m_below j_below))
      (not_below_product (n * 2 ^ 28) (m * 2 ^ 22 + j) (2 ^ 32) (omega arith)
      (not_below_larger (over n 16) (over (n * 2 ^ 28) (2 ^ 32)) (omega arith) (omega arith) (coarse_not_below n))
      (fine_not_below m j m_below j_below)))
