-- `coarse_decay`: an entry of at most 2^32 times a loss below 2^32 fits 64 bits, and what is left is the product of the entries. No axioms.
use mathlib.Core.Path.{◌≡◌, ap}
use Prim.Native.Nat.{ℕ, ◌+◌, ◌*◌, ◌-◌, ◌/◌, ◌%◌, ◌^◌, min}
use native.Mathlib.Nat.{mul-le-mul}
use native.Mathlib.Omega.{arith}
use Rattle.series.proofs.EntryBounds.{entry_at_most, sixteenth_entry_above_zero}
use Rattle.formula.proofs.coarse_decay.Goals as goal

-- t × l / 2^32 rounded up and t × e / 2^32 rounded down make t, where l + e = 2^32
rounded : (t l e : ℕ) → l + e ≡ 2 ^ 32 → t - (t * l / 2 ^ 32 + min 1 (t * l % 2 ^ 32)) ≡ t * e / 2 ^ 32
rounded t l e h = omega (arith, ap (λ (x : ℕ). t * x) h)

-- t × l with t ≤ 2^32 and l < 2^32
pub overflow_mul-t : goal.overflow_mul-t
overflow_mul-t c =
    omega (
      arith,
      mul-le-mul {n₁ = c.whole_entry-t.result} {m₁ = c.sixteenth_loss.result} {n₂ = 2 ^ 32} {m₂ = 2 ^ 32 - 1}
          (rw c.whole_entry-t.ensures (entry_at_most (c.args.n / 16) 1))
          (omega (arith, c.sixteenth_loss.ensures, sixteenth_entry_above_zero (c.args.n % 16) (omega arith))),
    )

pub returns : goal.returns
returns c =
    rw (c.div_ceil.ensures, ← c.whole_entry-t.ensures)
    (rounded c.whole_entry-t.result c.sixteenth_loss.result _ c.sixteenth_loss.ensures)
