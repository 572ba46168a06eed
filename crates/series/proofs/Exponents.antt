-- The law of exponents for the series, x = a/b and y = c/b: Low(k) of x + y is at most the product of the two Low(k), and Low(j) of x times
-- Low(k) of y is at most Low(j + k) of x + y. No axioms.
-- All terms up to some m are brought to one bottom, so that the series become sums of whole numbers, whose laws are in Convolution.antt.
use mathlib.Core.Path.{◌≡◌, ap}
use Prim.Native.Nat.{ℕ, zero, suc, ◌+◌, ◌*◌, ◌^◌, ◌≤◌, ◌<◌, suc-le-suc}
use native.Mathlib.Nat.{pow-zero, pow-suc, mul-pos, mul-le-mul_right, le_of_mul-le-mul_right, le_refl, le-add_left, le-add_right, le_of_lt, zero-lt-suc}
use native.Mathlib.Omega.{arith}
use Rattle.series.specs.Fraction.{Fraction, over, plus, times, AtMost}
use Rattle.series.specs.Series.{factorial, term, low}
use Rattle.series.proofs.Convolution.{sum, conv, sum_conv_at_most, sum_conv_at_least, Exponential, conv_exponential}

-- x is the part q of d, that is q × d
record Part (q : Fraction) (d x : ℕ) : Type 0 where
  equal : x * q.bottom ≡ q.top * d

part_plus : {q r : Fraction} {d x y : ℕ} → Part q d x → Part r d y → Part (plus q r) d (x + y)
part_plus {q} {r} u v =
    record { equal = omega (arith, ap (λ (t : ℕ). t * r.bottom) u.equal, ap (λ (t : ℕ). t * q.bottom) v.equal) }

part_times : {q r : Fraction} {d e x y : ℕ} → Part q d x → Part r e y → Part (times q r) (d * e) (x * y)
part_times {q} {r} {d} {y} u v =
    record { equal = omega (arith, ap (λ (t : ℕ). t * (y * r.bottom)) u.equal, ap (λ (t : ℕ). q.top * d * t) v.equal) }

-- fractions compare as their parts of the same number
part_at_most : {q r : Fraction} {d x y : ℕ} → 0 < d → Part q d x → Part r d y → x ≤ y → AtMost q r
part_at_most {q} {r} {d} positive u v h =
    le_of_mul-le-mul_right {k = d}
    (omega (arith, ap (λ (t : ℕ). t * r.bottom) u.equal, ap (λ (t : ℕ). t * q.bottom) v.equal, mul-le-mul_right (q.bottom * r.bottom) h))
    positive

-- in an exponential sequence f(n) is the part (a/b)^n / n! of f(0), so the sum up to k is the part Low(k)
module _ {a b m : ℕ} {f : ℕ → ℕ} (e : Exponential 0 a b f m) where
  part_term : (n : ℕ) → n ≤ m → Part (term (over a b) n) (f 0) (f n)
  unfolding factorial
  part_term zero h = record { equal = rw (pow-zero a, pow-zero b) (omega arith) }
  part_term (suc n) h =
      let before : Part (term (over a b) n) (f 0) (f n) = part_term n (le_of_lt h) in
      record {
        equal = rw (pow-suc a n, pow-suc b n)
            (omega (arith, ap (λ (t : ℕ). t * (b ^ n * factorial n)) (e.step n h), ap (λ (t : ℕ). a * t) before.equal));
      }

  part_low : (k : ℕ) → k ≤ m → Part (low (over a b) k) (f 0) (sum f k)
  unfolding low sum
  part_low zero h = part_term zero h
  part_low (suc k) h = part_plus (part_low k (le_of_lt h)) (part_term (suc k) h)

-- an exponential sequence up to m: a^n (s+n+1) … (s+m) b^(m-n)
scaled : ℕ → ℕ → ℕ → ℕ → ℕ → ℕ
scaled a b s zero n = 1
scaled a b s (suc m) zero = suc s * b * scaled a b (suc s) m zero
scaled a b s (suc m) (suc n) = a * scaled a b (suc s) m n

scaled_step : (a b s m n : ℕ) → n < m → suc (s + n) * b * scaled a b s m (suc n) ≡ a * scaled a b s m n
unfolding scaled
scaled_step a b s zero n l = elim l [ ]
scaled_step a b s (suc m) zero (suc-le-suc l) = omega arith
scaled_step a b s (suc m) (suc n) (suc-le-suc l) = omega (arith, ap (λ (t : ℕ). a * t) (scaled_step a b (suc s) m n l))

scaled_exponential : (a b m : ℕ) → Exponential 0 a b (scaled a b 0 m) m
scaled_exponential a b m = record { step = scaled_step a b 0 m }

scaled_positive : (a b s m : ℕ) → 0 < b → 0 < scaled a b s m 0
unfolding scaled
scaled_positive a b s zero p = zero-lt-suc 0
scaled_positive a b s (suc m) p = mul-pos (mul-pos (zero-lt-suc s) p) (scaled_positive a b (suc s) m p)

-- the series of a/b, c/b and (a+c)/b as parts of one number
module _ (a c b m : ℕ) where
  abbrev f : ℕ → ℕ
  f = scaled a b 0 m

  abbrev g : ℕ → ℕ
  g = scaled c b 0 m

  common_positive : 0 < b → 0 < f 0 * g 0
  common_positive p = mul-pos (scaled_positive a b 0 m p) (scaled_positive c b 0 m p)

  part_of_product : (j k : ℕ) → j ≤ m → k ≤ m → Part (times (low (over a b) j) (low (over c b) k)) (f 0 * g 0) (sum f j * sum g k)
  part_of_product j k h l = part_times (part_low (scaled_exponential a b m) j h) (part_low (scaled_exponential c b m) k l)

  part_of_sum : Part (low (over (a + c) b) m) (f 0 * g 0) (sum (conv f g) m)
  unfolding conv
  part_of_sum = part_low (conv_exponential (scaled_exponential a b m) (scaled_exponential c b m)) m (le_refl m)

-- Low(k) of a sum is at most the product of the Low(k)
pub low_of_sum_at_most : (a c b k : ℕ) → 0 < b → AtMost (low (over (a + c) b) k) (times (low (over a b) k) (low (over c b) k))
low_of_sum_at_most a c b k p =
    part_at_most (common_positive a c b k p) (part_of_sum a c b k) (part_of_product a c b k k k (le_refl k) (le_refl k)) (sum_conv_at_most _ _ k)

-- the product of Low(j) and Low(k) is at most Low(j + k) of the sum
pub low_of_sum_at_least : (a c b j k : ℕ) → 0 < b → AtMost (times (low (over a b) j) (low (over c b) k)) (low (over (a + c) b) (j + k))
low_of_sum_at_least a c b j k p =
    let m : ℕ = j + k in
    part_at_most (common_positive a c b m p) (part_of_product a c b m j k (le-add_right j k) (le-add_left k j)) (part_of_sum a c b m) (sum_conv_at_least _ _ j k)
