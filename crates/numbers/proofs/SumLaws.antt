-- Laws of a sum over an index: its next term, its bounds by the bounds of its terms, its growth with the number of terms, one term replaced, and its parts: the sums of its blocks add up to it.
-- No axioms.
use mathlib.Core.Logic.{⊎_elim}
use mathlib.Core.Path.{◌≡◌, refl, sym, ap, ◌∙◌}
use Prim.Native.Nat.{ℕ, zero, suc, ◌+◌, ◌*◌, ◌-◌, min, ◌≤◌, ◌<◌}
use native.Mathlib.Nat.{add-zero, add-suc, eq-zero-or-pos, min-eq_left, eq-or-lt_of_le, le_of_suc-le-suc, le_refl, le_step, lt-suc_self, mul-le-mul_left, not-suc-le-zero}
use native.Mathlib.Numerals.{add-one}
use native.Mathlib.Omega.{arith}
use Rattle.numbers.specs.Sum.{sum, sum_from, block_sum}

pub sum_next : (f : ℕ → ℕ) (n : ℕ) → sum f (n + 1) ≡ sum f n + f n
unfolding sum
sum_next f n = rw add-one

pub sum_same : (f g : ℕ → ℕ) (n : ℕ) → ((i : ℕ) → i < n → f i ≡ g i) → sum f n ≡ sum g n
unfolding sum
sum_same f g zero h = refl
sum_same f g (suc n) h = rw (sum_same f g n (λ i l. h i (le_step l)), h n (lt-suc_self n))

pub sum_at_most : (f : ℕ → ℕ) (m n : ℕ) → ((i : ℕ) → i < n → f i ≤ m) → sum f n ≤ m * n
unfolding sum
sum_at_most f m zero h = omega arith
sum_at_most f m (suc n) h = omega (arith, sum_at_most f m n (λ i l. h i (le_step l)), h n (lt-suc_self n))

pub sum_at_least : (f : ℕ → ℕ) (m n : ℕ) → ((i : ℕ) → i < n → m ≤ f i) → m * n ≤ sum f n
unfolding sum
sum_at_least f m zero h = omega arith
sum_at_least f m (suc n) h = omega (arith, sum_at_least f m n (λ i l. h i (le_step l)), h n (lt-suc_self n))

pub sum_ordered : (f g : ℕ → ℕ) (n : ℕ) → ((i : ℕ) → i < n → f i ≤ g i) → sum f n ≤ sum g n
unfolding sum
sum_ordered f g zero h = le_refl 0
sum_ordered f g (suc n) h = omega (arith, sum_ordered f g n (λ i l. h i (le_step l)), h n (lt-suc_self n))

pub sum_scaled : (f g : ℕ → ℕ) (m n : ℕ) → ((i : ℕ) → i < n → f i ≤ m * g i) → sum f n ≤ m * sum g n
unfolding sum
sum_scaled f g m zero h = omega arith
sum_scaled f g m (suc n) h = omega (arith, sum_scaled f g m n (λ i l. h i (le_step l)), h n (lt-suc_self n))

pub sum_grows : (f : ℕ → ℕ) (j n : ℕ) → j ≤ n → sum f j ≤ sum f n
unfolding sum
sum_grows f j zero h = let e : j ≡ 0 = omega arith in rw e (le_refl 0)
sum_grows f j (suc n) h =
    ⊎_elim
    (λ e. rw e (le_refl _))
    (λ l. omega (arith, sum_grows f j n (le_of_suc-le-suc l)))
    (eq-or-lt_of_le h)

-- f and g differ at k alone
pub sum_replaced : (f g : ℕ → ℕ) (k n : ℕ) → k < n → ((i : ℕ) → i < n → (i ≡ k → ⊥) → f i ≡ g i) → sum f n + g k ≡ sum g n + f k
unfolding sum
sum_replaced f g k zero l h = absurd (not-suc-le-zero l)
sum_replaced f g k (suc n) l h =
    ⊎_elim
    (λ e.
    let others : sum f n ≡ sum g n = sum_same f g n (λ i below. h i (le_step below) (λ same. omega arith)) in
    rw e (omega arith))
    (λ below.
    let last : f n ≡ g n = h n (lt-suc_self n) (λ same. omega arith) in
    omega (arith, sum_replaced f g k n below (λ i under. h i (le_step under))))
    (eq-or-lt_of_le (le_of_suc-le-suc l))

-- ---- parts of a sum

-- the first a terms, and those behind them
sum_parted : (f : ℕ → ℕ) (a n : ℕ) → sum f (a + n) ≡ sum f a + sum (λ j. f (a + j)) n
unfolding sum
sum_parted f a zero = rw (add-zero a) (omega arith)
sum_parted f a (suc n) = rw (add-suc a n) (omega (arith, sum_parted f a n))

pub sum_from_next : (f : ℕ → ℕ) (a i : ℕ) → a ≤ i → sum_from f a (i + 1) ≡ sum_from f a i + f i
sum_from_next f a i l =
    let one_more : (i + 1) - a ≡ (i - a) + 1 = omega arith in
    let last : a + (i - a) ≡ i = omega arith in
    rw one_more (sum_next (λ j. f (a + j)) (i - a) ∙ rw last refl)

-- up to a term that is not above the first there is nothing to sum
pub sum_from_none : (f : ℕ → ℕ) (a e : ℕ) → e ≤ a → sum_from f a e ≡ 0
unfolding sum
sum_from_none f a e l = let none : e - a ≡ 0 = omega arith in rw none refl

-- at most n terms, none above m
pub sum_from_at_most : (f : ℕ → ℕ) (m a e n : ℕ) → e - a ≤ n → ((i : ℕ) → i < e → f i ≤ m) → sum_from f a e ≤ m * n
sum_from_at_most f m a e n few h = omega (arith, sum_at_most (λ j. f (a + j)) m (e - a) (λ j l. h (a + j) (omega arith)), mul-le-mul_left m few)

-- of n terms those before a, and the next m of them
next_block : (f : ℕ → ℕ) (m n a : ℕ) → sum f (min n a) + sum_from f a (min n (a + m)) ≡ sum f (min n (a + m))
next_block f m n a =
    ⊎_elim
    (λ (past : n - a ≡ 0).
    let same : min n (a + m) ≡ min n a = omega arith in
    omega (arith, ap (sum f) same, sum_from_none f a (min n (a + m)) (omega arith)))
    (λ (within : 0 < n - a).
    let start : min n a ≡ a = omega arith in
    let end : a + (min n (a + m) - a) ≡ min n (a + m) = omega arith in
    rw start (sym (sum_parted f a (min n (a + m) - a)) ∙ ap (sum f) end))
    (eq-zero-or-pos (n - a))

-- the first k blocks of n terms, m to a block
blocks_to : (f : ℕ → ℕ) (m n k : ℕ) → sum (λ b. block_sum f m n b) k ≡ sum f (min n (m * k))
unfolding sum
blocks_to f m n zero = let none : min n (m * 0) ≡ 0 = omega arith in rw none refl
blocks_to f m n (suc k) =
    let end : m * suc k ≡ m * k + m = omega arith in
    rw (end, blocks_to f m n k) (next_block f m n (m * k))

-- blocks of any size that reach the last term sum to the whole
pub sum_of_blocks : (f : ℕ → ℕ) (m n k : ℕ) → n ≤ m * k → sum (λ b. block_sum f m n b) k ≡ sum f n
sum_of_blocks f m n k l = blocks_to f m n k ∙ ap (sum f) (min-eq_left l)
