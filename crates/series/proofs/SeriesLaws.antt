-- The laws of the series: Low rises and is at least 1, Up falls where k is admitted, every Low is at most every admitted Up, a larger
-- fraction has a larger Low, and the bounds converge. No axioms.
use mathlib.Core.Path.{◌≡◌}
use Prim.Native.Nat.{ℕ, zero, suc, ◌+◌, ◌*◌, ◌^◌, ◌≤◌, ◌<◌}
use native.Mathlib.Nat.{add-zero, suc-add, zero-add, add_assoc, add_comm, pow-zero, pow-suc, le_refl, le_trans, mul-pos, mul-le-mul_right, le_of_mul-le-mul_right, one-le-pow, zero-lt-suc, pow-le-pow_left, le-add_left, le-mul_of_pos_right}
use native.Mathlib.Omega.{arith}
use Rattle.series.specs.Fraction.{Fraction, plus, times, whole, AtMost}
use Rattle.series.specs.Series.{factorial, term, low, up, Admitted}
use Rattle.series.proofs.FractionLaws.{at_most_trans, at_most_plus, plus_at_most_plus}

-- ---- fractions

-- 2z ≤ y gives x + y + 2z ≤ x + 2y
halved_tail : (x y z : Fraction) → AtMost (times (whole 2) z) y → AtMost (plus (plus x y) (times (whole 2) z)) (plus x (times (whole 2) y))
halved_tail x y z h = omega (arith, mul-le-mul_right (x.bottom * x.bottom * y.bottom) h)

-- 2x ≤ y gives 2cx ≤ cy
scaled : (c : ℕ) (x y : Fraction) → AtMost (times (whole 2) x) y → AtMost (times (whole (c * 2)) x) (times (whole c) y)
scaled c x y h = omega (arith, mul-le-mul_right c h)

-- ---- terms

pub factorial_pos : (i : ℕ) → 0 < factorial i
unfolding factorial
factorial_pos zero = zero-lt-suc 0
factorial_pos (suc i) = mul-pos (factorial_pos i) (zero-lt-suc i)

pub term_bottom_pos : (q : Fraction) → 0 < q.bottom → (i : ℕ) → 0 < (term q i).bottom
term_bottom_pos q p i = mul-pos (one-le-pow i q.bottom p) (factorial_pos i)

-- 2 × term (k+2) ≤ term (k+1) where k is admitted
terms_halve : (q : Fraction) (k : ℕ) → Admitted q k → AtMost (times (whole 2) (term q (suc (suc k)))) (term q (suc k))
unfolding factorial
terms_halve q k h = rw (pow-suc q.top (suc k), pow-suc q.bottom (suc k)) (core (q.top ^ suc k) (q.bottom ^ suc k) (factorial k * suc k))
  where
    core : (x y f : ℕ) → 2 * (x * q.top) * (y * f) ≤ x * (1 * (y * q.bottom * (f * suc (suc k))))
    core x y f = omega (arith, mul-le-mul_right (x * y * f) h)

-- ---- Low and Up

pub low_bottom_pos : (q : Fraction) → 0 < q.bottom → (k : ℕ) → 0 < (low q k).bottom
unfolding low
low_bottom_pos q p zero = term_bottom_pos q p zero
low_bottom_pos q p (suc k) = mul-pos (low_bottom_pos q p k) (term_bottom_pos q p (suc k))

-- Low rises with k
pub low_rises : (q : Fraction) (d k : ℕ) → AtMost (low q k) (low q (d + k))
unfolding low
low_rises q zero k = rw zero-add (le_refl _)
low_rises q (suc d) k = rw suc-add (at_most_plus (low q k) (low q (d + k)) (term q (suc (d + k))) (low_rises q d k))

-- Low(k) is at least 1
pub low_at_least_one : (q : Fraction) (k : ℕ) → (low q k).bottom ≤ (low q k).top
unfolding low factorial
low_at_least_one q k = omega (arith, simp (add-zero, pow-zero) at (low_rises q k zero))

-- every k after an admitted one is admitted
pub admitted_later : (q : Fraction) (d k : ℕ) → Admitted q k → Admitted q (d + k)
admitted_later q d k h = omega arith

pub up_bottom_pos : (q : Fraction) → 0 < q.bottom → (k : ℕ) → 0 < (up q k).bottom
up_bottom_pos q p k = mul-pos (low_bottom_pos q p k) (mul-pos (zero-lt-suc 0) (term_bottom_pos q p (suc k)))

pub low_top_pos : (q : Fraction) → 0 < q.bottom → (k : ℕ) → 0 < (low q k).top
low_top_pos q pos k = le_trans (low_bottom_pos q pos k) (low_at_least_one q k)

pub up_top_pos : (q : Fraction) → 0 < q.bottom → (k : ℕ) → 0 < (up q k).top
up_top_pos q pos k = omega (arith, mul-pos (low_top_pos q pos k) (term_bottom_pos q pos (suc k)))

-- Up falls from an admitted k on
pub up_falls : (q : Fraction) → 0 < q.bottom → (d k : ℕ) → Admitted q k → AtMost (up q (d + k)) (up q k)
unfolding low
up_falls q p zero k h = rw zero-add (le_refl _)
up_falls q p (suc d) k h = rw suc-add (at_most_trans (up q (suc (d + k))) (up q (d + k)) (up q k) (up_bottom_pos q p (d + k)) once (up_falls q p d k h))
  where
    once : AtMost (up q (suc (d + k))) (up q (d + k))
    once = halved_tail (low q (d + k)) (term q (suc (d + k))) (term q (suc (suc (d + k)))) (terms_halve q (d + k) (admitted_later q d k h))

-- Low(j) ≤ Up(k), for any j and any admitted k, through Up(k + j)
pub low_at_most_up : (q : Fraction) → 0 < q.bottom → (j k : ℕ) → Admitted q k → AtMost (low q j) (up q k)
low_at_most_up q p j k h = at_most_trans (low q j) (up q (k + j)) (up q k) (up_bottom_pos q p (k + j)) below (rw (add_comm k j) (up_falls q p j k h))
  where
    below : AtMost (low q j) (up q (k + j))
    below = at_most_plus (low q j) (low q (k + j)) (times (whole 2) (term q (suc (k + j)))) (low_rises q k j)

-- ---- a larger fraction

mul_pow : (x y i : ℕ) → (x * y) ^ i ≡ x ^ i * y ^ i
mul_pow x y zero = simp pow-zero
mul_pow x y (suc i) = simp (pow-suc, mul_pow x y i) (omega arith)

term_grows : (q r : Fraction) → AtMost q r → (i : ℕ) → AtMost (term q i) (term r i)
term_grows q r h i = omega (arith, mul-le-mul_right (factorial i) (simp mul_pow at (pow-le-pow_left h i)))

-- a larger fraction has a larger Low
pub low_grows : (q r : Fraction) → AtMost q r → (k : ℕ) → AtMost (low q k) (low r k)
unfolding low
low_grows q r h zero = term_grows q r h zero
low_grows q r h (suc k) = plus_at_most_plus (low q k) (low r k) (term q (suc k)) (term r (suc k)) (low_grows q r h k) (term_grows q r h (suc k))

-- ---- the bounds converge

le_two_pow : (n : ℕ) → n ≤ 2 ^ n
le_two_pow zero = omega arith
le_two_pow (suc n) = omega (arith, pow-suc 2 n, le_two_pow n, one-le-pow n 2 (zero-lt-suc 1))

-- 2^d × term (d+k+1) ≤ term (k+1) where k is admitted
terms_vanish : (q : Fraction) → 0 < q.bottom → (d k : ℕ) → Admitted q k → AtMost (times (whole (2 ^ d)) (term q (suc (d + k)))) (term q (suc k))
terms_vanish q p zero k h = rw (zero-add, pow-zero) (omega arith)
terms_vanish q p (suc d) k h =
    rw (suc-add, pow-suc 2 d)
    (at_most_trans (times (whole (2 ^ d * 2)) next) this (term q (suc k))
    (mul-pos (zero-lt-suc 0) (term_bottom_pos q p (suc (d + k))))
    once
    (terms_vanish q p d k h))
  where
    this : Fraction
    this = times (whole (2 ^ d)) (term q (suc (d + k)))

    next : Fraction
    next = term q (suc (suc (d + k)))

    once : AtMost (times (whole (2 ^ d * 2)) next) this
    once = scaled (2 ^ d) next (term q (suc (d + k))) (terms_halve q (d + k) (admitted_later q d k h))

-- w × x ≤ y gives c × x ≤ 1 where w is at least c × (y's top + 1)
small : (c w : ℕ) (x y : Fraction) → 0 < y.bottom → c * suc y.top ≤ w → AtMost (times (whole w) x) y → c * x.top ≤ x.bottom
small c w x y p h l =
    le_of_mul-le-mul_right {k = suc y.top} (omega (arith, mul-le-mul_right x.top h, le-mul_of_pos_right (w * x.top) p)) (zero-lt-suc y.top)

-- for every c there is a place from which on every k is admitted and c × 2 × q^(k+1) / (k+1)! is at most 1
pub bounds_converge : (q : Fraction) → 0 < q.bottom → (c : ℕ) →
    (k₀ : ℕ) × ((d : ℕ) → Admitted q (d + k₀) × (c * (2 * (term q (suc (d + k₀))).top) ≤ (term q (suc (d + k₀))).bottom))
bounds_converge q p c = (n + m, λ d. rw (← add_assoc) (admitted_later q (d + n) m admitted, omega (arith, past (d + n) (le-add_left n d))))
  where
    m : ℕ
    m = 2 * q.top

    n : ℕ
    n = c * 2 * suc (q.top ^ suc m)

    admitted : Admitted q m
    admitted = omega (arith, le-mul_of_pos_right m p)

    past : (e : ℕ) → n ≤ e → c * 2 * (term q (suc (e + m))).top ≤ (term q (suc (e + m))).bottom
    past e l =
        small (c * 2) (2 ^ e) (term q (suc (e + m))) (term q (suc m)) (term_bottom_pos q p (suc m))
        (le_trans l (le_two_pow e))
        (terms_vanish q p e m admitted)
