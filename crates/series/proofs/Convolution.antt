-- Sequences of whole numbers: partial sums, the convolution (the coefficients of a product of two series), and sequences that run as the
-- terms of an exponential series. No axioms.
use mathlib.Core.Path.{◌≡◌, refl, ap}
use Prim.Native.Nat.{ℕ, zero, suc, ◌+◌, ◌*◌, ◌≤◌, ◌<◌, suc-le-suc}
use native.Mathlib.Nat.{zero-add, suc-add, le_refl, le_of_lt, le-add_right, mul-le-mul_left, zero-lt-suc}
use native.Mathlib.Omega.{arith}

abbrev pub tail : (ℕ → ℕ) → ℕ → ℕ
tail f i = f (suc i)

-- f(0) + … + f(k)
unfoldable pub sum : (ℕ → ℕ) → ℕ → ℕ
sum f zero = f 0
sum f (suc k) = sum f k + f (suc k)

-- f(0) g(n) + f(1) g(n-1) + … + f(n) g(0)
unfoldable pub conv : (ℕ → ℕ) → (ℕ → ℕ) → ℕ → ℕ
conv f g zero = f 0 * g 0
conv f g (suc n) = f 0 * g (suc n) + conv (tail f) g n

sum_from_left : (f : ℕ → ℕ) (k : ℕ) → sum f (suc k) ≡ f 0 + sum (tail f) k
unfolding sum
sum_from_left f zero = refl
sum_from_left f (suc k) = omega (arith, sum_from_left f k)

sum_grows : (f : ℕ → ℕ) (d k : ℕ) → sum f k ≤ sum f (d + k)
unfolding sum
sum_grows f zero k = rw zero-add (le_refl _)
sum_grows f (suc d) k = rw suc-add (omega (arith, sum_grows f d k))

-- the products with f(0), and the rest
sum_conv : (f g : ℕ → ℕ) (k : ℕ) → sum (conv f g) (suc k) ≡ f 0 * sum g (suc k) + sum (conv (tail f) g) k
unfolding sum conv
sum_conv f g zero = omega arith
sum_conv f g (suc k) = omega (arith, sum_conv f g k)

-- a product f(i) g(j) with i + j ≤ k has i ≤ k and j ≤ k
pub sum_conv_at_most : (f g : ℕ → ℕ) (k : ℕ) → sum (conv f g) k ≤ sum f k * sum g k
unfolding sum conv
sum_conv_at_most f g zero = le_refl _
sum_conv_at_most f g (suc k) =
    rw (sum_conv, sum_from_left f) (omega (arith, sum_conv_at_most (tail f) g k, mul-le-mul_left (sum (tail f) k) (le-add_right (sum g k) (g (suc k)))))

head_conv : (f g : ℕ → ℕ) (k : ℕ) → f 0 * sum g k ≤ sum (conv f g) k
unfolding sum conv
head_conv f g zero = le_refl _
head_conv f g (suc k) = omega (arith, sum_conv f g k)

-- a product f(i) g(l) with i ≤ j and l ≤ k has i + l ≤ j + k
pub sum_conv_at_least : (f g : ℕ → ℕ) (j k : ℕ) → sum f j * sum g k ≤ sum (conv f g) (j + k)
unfolding sum
sum_conv_at_least f g zero k = rw zero-add (head_conv f g k)
sum_conv_at_least f g (suc j) k =
    let grown : sum g k ≤ sum g (suc (j + k)) = rw suc-add at (sum_grows g (suc j) k) in
    rw (suc-add, sum_conv, sum_from_left f) (omega (arith, sum_conv_at_least (tail f) g j k, mul-le-mul_left (f 0) grown))

-- (s + n + 1) b f(n+1) = a f(n) for n < m. At s = 0 the terms (a/b)^n / n! of the exponential series have this, and all their multiples.
pub record Exponential (s a b : ℕ) (f : ℕ → ℕ) (m : ℕ) : Type 0 where
  pub step : (n : ℕ) → n < m → suc (s + n) * b * f (suc n) ≡ a * f n

-- the tail is exponential from the next s on
tail_exponential : {s a b m : ℕ} {f : ℕ → ℕ} → Exponential s a b f (suc m) → Exponential (suc s) a b (tail f) m
tail_exponential e = record { step = λ n l. omega (arith, e.step (suc n) (suc-le-suc l)) }

-- (s + n + 1) b is shared out over each product f(i) g(n+1-i): the part s + i goes to f(i), the part n + 1 - i to g(n+1-i).
-- Only f(0) has no term before it, and keeps s b.
conv_step : {s a c b m p : ℕ} {f g : ℕ → ℕ} (n : ℕ) → Exponential s a b f m → n < m → Exponential 0 c b g p → n < p
    → suc (s + n) * b * conv f g (suc n) ≡ s * b * f 0 * g (suc n) + (a + c) * conv f g n
unfolding conv
conv_step {f} {g} zero x l y k = omega (arith, ap (λ (t : ℕ). t * g 0) (x.step 0 l), ap (λ (t : ℕ). f 0 * t) (y.step 0 k))
conv_step {f} {g} (suc n) x (suc-le-suc l) y k =
    omega (
      arith,
      conv_step n (tail_exponential x) l y (le_of_lt k),
      ap (λ (t : ℕ). t * g (suc n)) (x.step 0 (zero-lt-suc _)),
      ap (λ (t : ℕ). f 0 * t) (y.step (suc n) k),
    )

-- the convolution is exponential, with the sum of the two tops
pub conv_exponential : {a c b m : ℕ} {f g : ℕ → ℕ} → Exponential 0 a b f m → Exponential 0 c b g m → Exponential 0 (a + c) b (conv f g) m
conv_exponential x y = record { step = λ n l. omega (arith, conv_step n x l y l) }
