-- What it means that a word has no fault: the test of its limits holds, and where they are two numbers it lies between them; which pool kinds have one. No axioms.
use mathlib.Core.Bool.{Bool, true, false}
use mathlib.Core.Path.{◌≡◌, refl}
use Prim.Native.Nat.{ℕ, ◌≤◌, ◌<◌}
use native.Mathlib.Omega.{arith}
use Rattle.numbers.specs.Limits.{within}
use Rattle.numbers.proofs.Tests.{between_true}
use Rattle.faults.specs.WordFaults.{unless, pool_kind_fault}

pub unless_zero : (number : ℕ) (good : Bool) → 0 < number → unless number good ≡ 0 → good ≡ true
unless_zero number true h e = refl
unless_zero number false h e = absurd (omega arith)

pub no_fault_within : (number least most w : ℕ) → 0 < number → unless number (within least most w) ≡ 0 → (least ≤ w) × (w ≤ most)
no_fault_within number least most w h e = between_true least most w (unless_zero number (within least most w) h e)

-- "pool kind (0 SA, 1 IRB, 2 mixed)", "4: a fact outside its codes"
pub pool_kinds : (pool_kind_fault 0 ≡ 0) × (pool_kind_fault 1 ≡ 0) × (pool_kind_fault 2 ≡ 0) × (pool_kind_fault 3 ≡ 4)
pool_kinds = (refl, refl, refl, refl)
