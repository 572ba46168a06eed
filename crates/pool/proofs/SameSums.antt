-- Two sheets whose pool rows are the same, their risk weights in hundredths of a percent, have the same sums, in whatever order and wherever they stand. No axioms.
use mathlib.Core.Bool.{not}
use mathlib.Core.List.{List}
use mathlib.Core.Path.{◌≡◌, refl, ap, ◌∙◌}
use Prim.Native.Nat.{ℕ, ◌+◌, ◌*◌, ◌-◌, ◌<◌}
use native.Mathlib.Nat.{add-zero}
use native.Mathlib.Omega.{arith}
use lib.Dec.{eqb}
use Rattle.limits.specs.SheetSize.{block_size}
use Rattle.numbers.specs.Sum.{sum, block_start, block_end, block_sum, where_counted}
use Rattle.numbers.specs.Permutation.{Permutation}
use Rattle.numbers.proofs.SumLaws.{sum_same}
use Rattle.numbers.proofs.SumPermuted.{sum_permuted}
use Rattle.judgement.specs.DealSheet.{word, in_hundredths, rows, row_at, exposure, nominal, risk_weight, status}
use Rattle.pool.specs.PoolSums.{pool_sums}
use Rattle.pool.specs.BlockSums.{block_sums}

module _ (s s' : List ℕ) (π σ : ℕ → ℕ) (count : rows s' ≡ rows s) (order : Permutation (rows s) π σ)
    (at_row : (i c : ℕ) → i < rows s → (c ≡ 2 → ⊥) → c < 4 → word s' (row_at s' i + c) ≡ word s (row_at s (π i) + c))
    (weighed : (i : ℕ) → i < rows s → risk_weight s' i ≡ risk_weight s (π i)) where
  exposure_moved : (i : ℕ) → i < rows s → exposure s' i ≡ exposure s (π i)
  exposure_moved i row = simp add-zero at (at_row i 0 row (λ e. omega arith) (omega arith))

  -- the sum of any number f that a row's three other words and its risk weight decide
  sum_moved :
      (f : ℕ → ℕ → ℕ → ℕ → ℕ) →
      sum (λ i. f (exposure s' i) (nominal s' i) (risk_weight s' i) (status s' i)) (rows s') ≡
      sum (λ i. f (exposure s i) (nominal s i) (risk_weight s i) (status s i)) (rows s)
  sum_moved f =
      ap (sum (λ i. f (exposure s' i) (nominal s' i) (risk_weight s' i) (status s' i))) count ∙
      sum_same
      (λ i. f (exposure s' i) (nominal s' i) (risk_weight s' i) (status s' i))
      (λ i. f (exposure s (π i)) (nominal s (π i)) (risk_weight s (π i)) (status s (π i)))
      (rows s)
      (λ i row.
      rw (exposure_moved i row, at_row i 1 row (λ e. omega arith) (omega arith), weighed i row, at_row i 3 row (λ e. omega arith) (omega arith))) ∙
      sum_permuted (λ i. f (exposure s i) (nominal s i) (risk_weight s i) (status s i)) (rows s) π σ order

  pub same_sums : pool_sums s' ≡ pool_sums s
  unfolding pool_sums
  same_sums =
      rw (
        sum_moved (λ e n w t. e),
        sum_moved (λ e n w t. n),
        sum_moved (λ e n w t. e * w),
        sum_moved (λ e n w t. where_counted (not (eqb t 2)) e),
        sum_moved (λ e n w t. where_counted (not (eqb t 2)) n),
        sum_moved (λ e n w t. where_counted (not (eqb t 2)) (e * w)),
        sum_moved (λ e n w t. where_counted (eqb t 1) n),
      )

-- in the same order
pub reweighed_sums :
    (s s' : List ℕ) → rows s' ≡ rows s →
    ((i c : ℕ) → i < rows s → (c ≡ 2 → ⊥) → c < 4 → word s' (row_at s' i + c) ≡ word s (row_at s i + c)) →
    ((i : ℕ) → i < rows s → risk_weight s' i ≡ risk_weight s i) → pool_sums s' ≡ pool_sums s
reweighed_sums s s' count =
    same_sums s s' (λ i. i) (λ i. i) count
    (record { forth = λ i l. l; back = λ i l. l; back_forth = λ i l. refl; forth_back = λ i l. refl })

-- and so do their blocks
module _ (s s' : List ℕ) (count : rows s' ≡ rows s)
    (at_row : (i c : ℕ) → i < rows s → (c ≡ 2 → ⊥) → c < 4 → word s' (row_at s' i + c) ≡ word s (row_at s i + c))
    (weighed : (i : ℕ) → i < rows s → risk_weight s' i ≡ risk_weight s i) (b : ℕ) where
  -- the sum over a block of any number f that a row's three other words and its risk weight decide
  block_alike :
      (f : ℕ → ℕ → ℕ → ℕ → ℕ) →
      block_sum (λ i. f (exposure s' i) (nominal s' i) (risk_weight s' i) (status s' i)) block_size (rows s) b ≡
      block_sum (λ i. f (exposure s i) (nominal s i) (risk_weight s i) (status s i)) block_size (rows s) b
  block_alike f =
      let first = block_start block_size b in
      sum_same
      (λ j. f (exposure s' (first + j)) (nominal s' (first + j)) (risk_weight s' (first + j)) (status s' (first + j)))
      (λ j. f (exposure s (first + j)) (nominal s (first + j)) (risk_weight s (first + j)) (status s (first + j)))
      (block_end block_size (rows s) b - first)
      (λ j l.
      let row : first + j < rows s = omega arith in
      let e : word s' (row_at s' (first + j)) ≡ word s (row_at s (first + j)) = simp add-zero at (at_row (first + j) 0 row (λ e. omega arith) (omega arith)) in
      rw (
        e,
        at_row (first + j) 1 row (λ e. omega arith) (omega arith),
        weighed (first + j) row,
        at_row (first + j) 3 row (λ e. omega arith) (omega arith),
      ))

  pub reweighed_blocks : block_sums s' b ≡ block_sums s b
  unfolding block_sums
  reweighed_blocks =
      rw (
        count,
        block_alike (λ e n w t. e),
        block_alike (λ e n w t. n),
        block_alike (λ e n w t. e * w),
        block_alike (λ e n w t. where_counted (not (eqb t 2)) e),
        block_alike (λ e n w t. where_counted (not (eqb t 2)) n),
        block_alike (λ e n w t. where_counted (not (eqb t 2)) (e * w)),
        block_alike (λ e n w t. where_counted (eqb t 1) n),
      )

-- rows of the same four words have the same risk weights, where the unit is the same
pub same_weight :
    (s s' : List ℕ) (i j : ℕ) → in_hundredths s' ≡ in_hundredths s → word s' (row_at s' i + 2) ≡ word s (row_at s j + 2) → risk_weight s' i ≡ risk_weight s j
same_weight s s' i j unit alike = rw (unit, alike)

-- so rows of the same four words in the same order have the same sums
pub same_sums_in_order :
    (s s' : List ℕ) → rows s' ≡ rows s → in_hundredths s' ≡ in_hundredths s →
    ((i c : ℕ) → i < rows s → c < 4 → word s' (row_at s' i + c) ≡ word s (row_at s i + c)) → pool_sums s' ≡ pool_sums s
same_sums_in_order s s' count unit alike = reweighed_sums s s' count (λ i c row other column. alike i c row column)
    (λ i row. same_weight s s' i i unit (alike i 2 row (omega arith)))
