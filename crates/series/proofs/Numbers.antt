-- Laws of whole numbers that several proofs share, here and in `formula`: truncated differences, and quotients. No axioms.
use mathlib.Core.Logic.{⊎_elim}
use mathlib.Core.Path.{◌≡◌, ◌∙◌, ap, sym}
use Prim.Native.Nat.{ℕ, ◌+◌, ◌*◌, ◌-◌, ◌/◌, ◌%◌, ◌<◌}
use native.Mathlib.Nat.{eq-zero-or-pos, div-add-mod', mul-add-div_right}
use native.Mathlib.Omega.{arith}

-- what holds of 0, and of every g with g + d = h, holds of the truncated difference h − d
pub at_difference : (P : ℕ → Type 0) (h d : ℕ) → P 0 → ((g : ℕ) → g + d ≡ h → P g) → P (h - d)
at_difference P h d none some =
    ⊎_elim (λ e. rw e none) (λ l. some (h - d) (omega arith)) (eq-zero-or-pos (h - d))

-- a × s × s over b, by a digit to the base s and then by one of the rest
pub long_division : (a b s : ℕ) → 0 < b → a * s / b * s + a * s % b * s / b ≡ a * (s * s) / b
long_division a b s pos =
    sym (mul-add-div_right pos (a * s / b * s) (a * s % b * s)) ∙
    ap (λ (x : ℕ). x / b) (omega (arith, ap (λ (x : ℕ). x * s) (div-add-mod' (a * s) b)))

-- (w − z) (w + z) = w² − z²
pub difference_of_squares : (c w z : ℕ) → c + z ≡ w → c * (w + z) + z * z ≡ w * w
difference_of_squares c w z e = omega (arith, ap (λ (t : ℕ). t * w) e, ap (λ (t : ℕ). t * z) e)
