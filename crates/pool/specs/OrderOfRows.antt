-- The order of the pool's rows does not enter the pool's sums, nor anything that follows from them (it enters those of its blocks): what it is that a sheet is another with its pool rows in another order.
use Rattle.std.specs.Prelude.{List, ◌≡◌, ℕ, ◌+◌, ◌≤◌, ◌<◌, length}
use Rattle.limits.specs.SheetSize.{row_size}
use Rattle.numbers.specs.Permutation.{Permutation}
use Rattle.judgement.specs.DealSheet.{word, rows, row_at, tranches_at}

-- s' is s but for the order of the pool's rows: its row i is row π i of s
pub record Reordered (s s' : List ℕ) (π σ : ℕ → ℕ) : Type 0 where
  pub permutation : Permutation (rows s) π σ
  pub same_length : length s' ≡ length s
  pub same_before : (p : ℕ) → p < row_at s 0 → word s' p ≡ word s p
  pub same_after : (p : ℕ) → tranches_at s ≤ p → word s' p ≡ word s p
  pub row_moved : (i c : ℕ) → i < rows s → c < row_size → word s' (row_at s i + c) ≡ word s (row_at s (π i) + c)
