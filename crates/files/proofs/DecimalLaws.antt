-- Laws of a number in decimal: its digits one after another, how many there are, that each is a digit and the first is no 0, and that they read
-- back as the number. No axioms.
use mathlib.Core.Bool.{true, cond, ◌&&◌, and-true, and_assoc}
use mathlib.Core.List.{List, [], ◌∷◌, ◌++◌}
use mathlib.Core.Logic.{⊎_elim}
use mathlib.Core.Path.{◌≡◌, refl, sym, ◌∙◌}
use Prim.Native.Nat.{ℕ, zero, suc, ◌+◌, ◌*◌, ◌-◌, ◌/◌, ◌%◌, ◌^◌, ◌≤◌, ◌<◌}
use native.Mathlib.Nat.{eq-zero-or-pos, mod-eq_of_lt, pow-suc}
use native.Mathlib.Omega.{arith}
use borrow.Author.Tests.{lt-ltb, le-ltb, le-leb}
use lib.Dec.{ltb}
use lib.ListN.{length, get_or, length-append}
use Rattle.files.specs.Decimal.{digit, all_digits, digits, digits_most, decimal, value_from}

-- ---- one digit after another

digits_one : (k n : ℕ) → n < 10 → digits (suc k) n ≡ (48 + n) ∷ []
unfolding digits
digits_one k n l = rw (lt-ltb n 10 l, mod-eq_of_lt l)

digits_more : (k n : ℕ) → 10 ≤ n → digits (suc k) n ≡ digits k (n / 10) ++ (48 + n % 10) ∷ []
unfolding digits
digits_more k n l = rw (le-ltb n 10 l)

-- what holds of a single digit, and of the digits of a tenth with one digit more, holds of the digits of every number
by_digits :
    (P : List ℕ → Type 0) (k n : ℕ) → (n < 10 → P ((48 + n) ∷ [])) → (10 ≤ n → P (digits k (n / 10) ++ (48 + n % 10) ∷ [])) →
    P (digits (suc k) n)
by_digits P k n one more =
    ⊎_elim
    (λ e.
    let l : 10 ≤ n = omega arith in
    rw (digits_more k n l) (more l))
    (λ pos.
    let l : n < 10 = omega arith in
    rw (digits_one k n l) (one l))
    (eq-zero-or-pos (10 - n))

-- a number below a power of ten, divided by ten, is below the power before it
tenth_below : (k n : ℕ) → n < 10 ^ suc k → n / 10 < 10 ^ k
tenth_below k n l = omega (arith, pow-suc 10 k)

-- more places than a number needs add no digit
digits_enough : (k n : ℕ) → n < 10 ^ suc k → digits (suc (suc k)) n ≡ digits (suc k) n
unfolding digits
digits_enough zero n l = rw (lt-ltb n 10 (omega arith))
digits_enough (suc k) n l = rw (digits_enough k (n / 10) (tenth_below (suc k) n l))

-- the digits before the last
unfoldable pub leading : ℕ → List ℕ
leading n = cond (ltb n 10) [] (decimal (n / 10))

pub leading_none : (n : ℕ) → n < 10 → leading n ≡ []
unfolding leading
leading_none n l = rw (lt-ltb n 10 l)

pub leading_some : (n : ℕ) → 10 ≤ n → leading n ≡ decimal (n / 10)
unfolding leading
leading_some n l = rw (le-ltb n 10 l)

digits_last : (k n : ℕ) → digits (suc k) n ≡ cond (ltb n 10) [] (digits k (n / 10)) ++ (48 + n % 10) ∷ []
unfolding digits
digits_last k n = refl

pub decimal_last : (n : ℕ) → n < 10 ^ digits_most → decimal n ≡ leading n ++ (48 + n % 10) ∷ []
unfolding decimal leading
decimal_last n h = digits_last 19 n ∙ rw (digits_enough 18 (n / 10) (tenth_below 19 n h))

pub decimal_more : (n : ℕ) → 10 ≤ n → n < 10 ^ digits_most → decimal n ≡ decimal (n / 10) ++ (48 + n % 10) ∷ []
decimal_more n l h = decimal_last n h ∙ rw (leading_some n l)

-- ---- how many digits

length_digits : (k n : ℕ) → length (digits k n) ≤ k
unfolding digits
length_digits zero n = omega arith
length_digits (suc k) n =
    by_digits (λ ds. length ds ≤ suc k) k n
    (λ l. omega arith)
    (λ l. omega (arith, length-append (digits k (n / 10)) ((48 + n % 10) ∷ []), length_digits k (n / 10)))

pub length_decimal : (n : ℕ) → length (decimal n) ≤ digits_most
unfolding decimal
length_decimal n = length_digits digits_most n

-- ---- which bytes

pub all_digits_longer : (cs : List ℕ) (b : ℕ) → all_digits (cs ++ b ∷ []) ≡ all_digits cs && digit b
unfolding all_digits
all_digits_longer [] b = and-true (digit b)
all_digits_longer (c ∷ cs) b = rw (all_digits_longer cs b) (sym (and_assoc (digit c) (all_digits cs) (digit b)))

is_digit : (b : ℕ) → 48 ≤ b → b ≤ 57 → digit b ≡ true
is_digit b least most = rw (le-leb 48 b least, le-leb b 57 most)

digits_digits : (k n : ℕ) → all_digits (digits k n) ≡ true
unfolding digits all_digits
digits_digits zero n = refl
digits_digits (suc k) n =
    by_digits (λ ds. all_digits ds ≡ true) k n
    (λ l. rw (is_digit (48 + n) (omega arith) (omega arith)))
    (λ l. rw (all_digits_longer (digits k (n / 10)) (48 + n % 10), digits_digits k (n / 10), is_digit (48 + n % 10) (omega arith) (omega arith)))

pub decimal_digits : (n : ℕ) → all_digits (decimal n) ≡ true
unfolding decimal
decimal_digits n = digits_digits digits_most n

-- a first digit above 0 is the first too where more digits follow
first_of : (ds es : List ℕ) → 49 ≤ get_or ds 0 0 → 49 ≤ get_or (ds ++ es) 0 0
first_of [] es l = omega arith
first_of (d ∷ ds) es l = l

digits_first : (k n : ℕ) → 1 ≤ n → n < 10 ^ k → 49 ≤ get_or (digits k n) 0 0
digits_first zero n pos l = omega arith
digits_first (suc k) n pos l =
    by_digits (λ ds. 49 ≤ get_or ds 0 0) k n
    (λ one. omega arith)
    (λ more. first_of (digits k (n / 10)) ((48 + n % 10) ∷ []) (digits_first k (n / 10) (omega arith) (tenth_below k n l)))

-- no 0 stands before the other digits
pub decimal_first : (n : ℕ) → 1 ≤ n → n < 10 ^ digits_most → 49 ≤ get_or (decimal n) 0 0
unfolding decimal
decimal_first n pos l = digits_first digits_most n pos l

-- ---- the number that they say

pub value_longer : (v : ℕ) (cs : List ℕ) (b : ℕ) → value_from v (cs ++ b ∷ []) ≡ 10 * value_from v cs + (b - 48)
unfolding value_from
value_longer v [] b = refl
value_longer v (c ∷ cs) b = value_longer (10 * v + (c - 48)) cs b

digits_value : (k n : ℕ) → n < 10 ^ k → value_from 0 (digits k n) ≡ n
unfolding digits value_from
digits_value zero n l = omega arith
digits_value (suc k) n l =
    by_digits (λ ds. value_from 0 ds ≡ n) k n
    (λ one. omega arith)
    (λ more. rw (value_longer 0 (digits k (n / 10)) (48 + n % 10), digits_value k (n / 10) (tenth_below k n l)) (omega arith))

pub decimal_value : (n : ℕ) → n < 10 ^ digits_most → value_from 0 (decimal n) ≡ n
unfolding decimal
decimal_value n l = digits_value digits_most n l
