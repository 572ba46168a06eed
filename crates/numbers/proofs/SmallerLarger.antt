-- Laws of the smaller and the larger of two numbers: what holds of both holds of each, and a rising function keeps which is which. No axioms.
use mathlib.Core.Logic.{◌⊎◌, inl, inr, ⊎_elim}
use mathlib.Core.Path.{◌≡◌}
use Prim.Native.Nat.{ℕ, ◌-◌, min, max, ◌≤◌, ◌<◌}
use native.Mathlib.Nat.{eq-zero-or-pos, min-eq_left, min-eq_right, max-eq_left, max-eq_right, le_of_lt}
use native.Mathlib.Omega.{arith}

pub le_or_lt : (a b : ℕ) → (a ≤ b) ⊎ (b < a)
le_or_lt a b = ⊎_elim (λ e. inl (omega arith)) (λ l. inr (omega arith)) (eq-zero-or-pos (a - b))

-- what holds of two numbers holds of the smaller
pub at_min : (P : ℕ → Type 0) (a b : ℕ) → P a → P b → P (min a b)
at_min P a b p q =
    ⊎_elim
    (λ l. rw (min-eq_left {n = a} {m = b} l) p)
    (λ l. rw (min-eq_right {n = b} {m = a} (le_of_lt l)) q)
    (le_or_lt a b)

-- and of the larger
pub at_max : (P : ℕ → Type 0) (a b : ℕ) → P a → P b → P (max a b)
at_max P a b p q =
    ⊎_elim
    (λ l. rw (max-eq_right {n = a} {m = b} l) q)
    (λ l. rw (max-eq_left {n = a} {m = b} (le_of_lt l)) p)
    (le_or_lt a b)

module _ (f : ℕ → ℕ) (rising : (a b : ℕ) → a ≤ b → f a ≤ f b) where
  pub min_of_rising : (a b : ℕ) → min (f a) (f b) ≡ f (min a b)
  min_of_rising a b =
      ⊎_elim
      (λ l. rw (min-eq_left {n = a} {m = b} l) (min-eq_left (rising a b l)))
      (λ l. rw (min-eq_right {n = b} {m = a} (le_of_lt l)) (min-eq_right (rising b a (le_of_lt l))))
      (le_or_lt a b)

  pub max_of_rising : (a b : ℕ) → max (f a) (f b) ≡ f (max a b)
  max_of_rising a b =
      ⊎_elim
      (λ l. rw (max-eq_right {n = a} {m = b} l) (max-eq_right (rising a b l)))
      (λ l. rw (max-eq_left {n = a} {m = b} (le_of_lt l)) (max-eq_left (rising b a (le_of_lt l))))
      (le_or_lt a b)
