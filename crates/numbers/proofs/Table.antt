-- A test that antt computes at every number below a limit, and the rule that follows at each; and the same for the entries of a list.
-- No axioms.
use mathlib.Core.Bool.{Bool, true, ◌&&◌}
use mathlib.Core.List.{List}
use mathlib.Core.Logic.{⊎_elim}
use mathlib.Core.Path.{◌≡◌, subst, sym}
use Prim.Native.Nat.{ℕ, zero, suc, ◌<◌}
use native.Mathlib.Nat.{eq-or-lt_of_le, le_of_suc-le-suc, not-suc-le-zero}
use lib.Dec.{T, eqb, eqb→eq}
use lib.ListN.{get_or}
use Rattle.numbers.proofs.Tests.{and_both}

-- the test f passes at each number below n
abbrev pub all_below : (ℕ → Bool) → ℕ → Bool
all_below f zero = true
all_below f (suc n) = f n && all_below f n

pub at_each : (f : ℕ → Bool) (n : ℕ) → T (all_below f n) → (k : ℕ) → k < n → T (f k)
at_each f zero t k h = absurd (not-suc-le-zero h)
at_each f (suc n) t k h =
    ⊎_elim
    (λ e. subst (λ (m : ℕ). T (f m)) (sym e) (and_both (f n) (all_below f n) t).0)
    (λ l. at_each f n (and_both (f n) (all_below f n) t).1 k l)
    (eq-or-lt_of_le (le_of_suc-le-suc h))

-- the list's entry at k is f k
abbrev pub agrees : (ℕ → ℕ) → List ℕ → ℕ → Bool
agrees f xs k = eqb (get_or xs k 0) (f k)

pub entry_is : (f : ℕ → ℕ) (xs : List ℕ) (n : ℕ) → T (all_below (agrees f xs) n) → (k : ℕ) → k < n → get_or xs k 0 ≡ f k
entry_is f xs n t k h = eqb→eq (get_or xs k 0) (f k) (at_each (agrees f xs) n t k h)
