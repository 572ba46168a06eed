-- Laws of the first number that passes a test: which it is, that it passes and none before it does, that none passes where there is none, and two tests that say the same. No axioms.
use mathlib.Core.Bool.{Bool, true, false}
use mathlib.Core.Logic.{⊎_elim}
use mathlib.Core.Path.{◌≡◌, refl, sym, ◌∙◌, ap}
use Prim.Native.Nat.{ℕ, zero, suc, ◌-◌, ◌≤◌, ◌<◌}
use native.Mathlib.Nat.{eq-zero-or-pos, le_of_suc-le-suc, not-suc-le-zero}
use native.Mathlib.Omega.{arith}
use borrow.Author.Tests.{lt-ltb, le-ltb}
use Rattle.numbers.specs.First.{first_where, some_where}
use Rattle.numbers.proofs.Tests.{true_not_false}

-- by the test of 0
at_zero : (test : ℕ → Bool) (n : ℕ) → test 0 ≡ true → first_where test (suc n) ≡ 0
unfolding first_where
at_zero test n e = rw e

past_zero : (test : ℕ → Bool) (n : ℕ) → test 0 ≡ false → first_where test (suc n) ≡ suc (first_where (λ k. test (suc k)) n)
unfolding first_where
past_zero test n e = rw e

-- a number that passes where none before it does is the first
pub first_is : (test : ℕ → Bool) (n j : ℕ) → j < n → test j ≡ true → ((k : ℕ) → k < j → test k ≡ false) → first_where test n ≡ j
first_is test zero j l e before = absurd (not-suc-le-zero l)
first_is test (suc n) zero l e before = at_zero test n e
first_is test (suc n) (suc j) l e before =
    past_zero test n (before 0 (omega arith)) ∙
    ap suc (first_is (λ k. test (suc k)) n j (le_of_suc-le-suc l) e (λ k h. before (suc k) (omega arith)))

pub first_none : (test : ℕ → Bool) (n : ℕ) → ((k : ℕ) → k < n → test k ≡ false) → first_where test n ≡ n
unfolding first_where
first_none test zero none = refl
first_none test (suc n) none =
    past_zero test n (none 0 (omega arith)) ∙ ap suc (first_none (λ k. test (suc k)) n (λ k h. none (suc k) (omega arith)))

pub first_at_most : (test : ℕ → Bool) (n : ℕ) → first_where test n ≤ n
unfolding first_where
first_at_most test zero = omega arith
first_at_most test (suc n) = by_zero (test 0) refl (first_at_most (λ k. test (suc k)) n)
  where
    by_zero : (b : Bool) → test 0 ≡ b → first_where (λ k. test (suc k)) n ≤ n → first_where test (suc n) ≤ suc n
    by_zero true e rest = omega (arith, at_zero test n e)
    by_zero false e rest = omega (arith, past_zero test n e, rest)

-- none before the first passes,
pub none_before : (test : ℕ → Bool) (n k : ℕ) → k < first_where test n → test k ≡ false
unfolding first_where
none_before test zero k l = absurd (not-suc-le-zero l)
none_before test (suc n) k l = by_zero (test 0) refl k l (none_before (λ k. test (suc k)) n)
  where
    by_zero :
        (b : Bool) → test 0 ≡ b → (k : ℕ) → k < first_where test (suc n) →
        ((k : ℕ) → k < first_where (λ k. test (suc k)) n → test (suc k) ≡ false) → test k ≡ false
    by_zero true e k l rest = absurd (omega (arith, at_zero test n e))
    by_zero false e zero l rest = e
    by_zero false e (suc k) l rest = rest k (omega (arith, past_zero test n e))

-- and the first does, where there is one
pub first_passes : (test : ℕ → Bool) (n : ℕ) → first_where test n < n → test (first_where test n) ≡ true
first_passes test zero l = absurd (not-suc-le-zero l)
first_passes test (suc n) l = by_zero (test 0) refl (first_passes (λ k. test (suc k)) n)
  where
    by_zero :
        (b : Bool) → test 0 ≡ b →
        (first_where (λ k. test (suc k)) n < n → test (suc (first_where (λ k. test (suc k)) n)) ≡ true) → test (first_where test (suc n)) ≡ true
    by_zero true e rest = rw (at_zero test n e) e
    by_zero false e rest = rw (past_zero test n e) (rest (omega (arith, past_zero test n e)))

-- two tests that say the same of each number have the same first
pub first_same :
    (test test' : ℕ → Bool) (n : ℕ) → ((k : ℕ) → k < n → test' k ≡ test k) → first_where test' n ≡ first_where test n
unfolding first_where
first_same test test' zero same = refl
first_same test test' (suc n) same =
    rw (same 0 (omega arith), first_same (λ k. test (suc k)) (λ k. test' (suc k)) n (λ k l. same (suc k) (omega arith)))

-- whether one passes
pub nowhere : (test : ℕ → Bool) (n : ℕ) → ((k : ℕ) → k < n → test k ≡ false) → some_where test n ≡ false
nowhere test n none = le-ltb (first_where test n) n (omega (arith, first_none test n none))

pub first_at_most_passing : (test : ℕ → Bool) (n k : ℕ) → test k ≡ true → first_where test n ≤ k
first_at_most_passing test n k passes =
    ⊎_elim
    (λ e. omega arith)
    (λ before. absurd (true_not_false (sym passes ∙ none_before test n k (omega arith))))
    (eq-zero-or-pos (first_where test n - k))

pub somewhere : (test : ℕ → Bool) (n k : ℕ) → k < n → test k ≡ true → some_where test n ≡ true
somewhere test n k l passes = lt-ltb (first_where test n) n (omega (arith, first_at_most_passing test n k passes))
