-- A sheet that has the counts of a good sheet, and whose facts, rows, tranches and IRB section are each good, is good: what two sheets that say the same in other words need, however they differ. No
-- axioms.
use mathlib.Core.Bool.{true}
use mathlib.Core.List.{List}
use mathlib.Core.Path.{◌≡◌}
use Prim.Native.Nat.{ℕ, ◌-◌, ◌≤◌, ◌<◌}
use native.Mathlib.Nat.{le_refl}
use native.Mathlib.Omega.{arith}
use lib.ListN.{length}
use Rattle.faults.specs.GoodWords.{GoodFact}
use Rattle.limits.specs.SheetSize.{irb_rows}
use Rattle.judgement.specs.DealSheet.{word, pool_kind, resecuritisation, pool_at, rows, tranche_count, class, has_irb, irb_at, irb_place, needed}
use Rattle.judgement.specs.GoodSheet.{GoodRowOf, GoodTrancheOf, GoodIrbOf, GoodSheet}
use Rattle.judgement.proofs.SameLayout.{SameCounts, same_irb_at}

module _ (s s' : List ℕ) (good : GoodSheet s) (first : word s' 0 ≡ word s 0) (counts : SameCounts s s') where
  -- ---- the words of the IRB section are the same

  module _ (kind : pool_kind s' ≡ pool_kind s) (section : (p : ℕ) → irb_at s ≤ p → word s' p ≡ word s p) where
    pub same_irb_column : (c : ℕ) → word s' (irb_place s' c) ≡ word s (irb_place s c)
    same_irb_column c = rw (same_irb_at s s' counts) (section (irb_place s c) (omega arith))

    pub same_irb_count : has_irb s' ≡ true → word s' (irb_at s') ≡ irb_rows
    same_irb_count has = rw (same_irb_at s s' counts, section (irb_at s) (le_refl _)) (good.irb_count (rw kind at has))

    pub same_irb_row : has_irb s' ≡ true → GoodIrbOf s'
    same_irb_row has =
        rw (
          kind,
          same_irb_column 0,
          same_irb_column 1,
          same_irb_column 2,
          same_irb_column 3,
          same_irb_column 4,
          same_irb_column 5,
        )
        (good.irb_row (rw kind at has))

  -- ---- the whole sheet

  pub good_alike :
      ((p : ℕ) → 1 ≤ p → p < pool_at s → GoodFact (resecuritisation s') p (word s' p)) →
      ((i : ℕ) → i < rows s → GoodRowOf s' i) →
      ((i : ℕ) → i < tranche_count s → GoodTrancheOf s' i) →
      ((i : ℕ) → i < tranche_count s → class s' i ≡ class s i) →
      (has_irb s' ≡ true → word s' (irb_at s') ≡ irb_rows) →
      (has_irb s' ≡ true → GoodIrbOf s') →
      length s' ≡ needed s' →
      GoodSheet s'
  good_alike facts rows-good tranches-good classes irb_count irb_row size =
      record {
        facts_at_least = rw first good.facts_at_least;
        facts_at_most = rw first good.facts_at_most;
        each_fact = λ p least before. facts p least (omega (arith, before, counts.pool_at_same));
        rows_least = rw counts.row_count good.rows_least;
        rows_at_most = rw counts.row_count good.rows_at_most;
        each_row = λ i row. rows-good i (omega (arith, row, counts.row_count));
        tranches_least = rw counts.tranche_count_same good.tranches_least;
        tranches_at_most = rw counts.tranche_count_same good.tranches_at_most;
        each_tranche = λ i row. tranches-good i (omega (arith, row, counts.tranche_count_same));
        each_class = λ i row.
            let here : i < tranche_count s = omega (arith, row, counts.tranche_count_same) in
            rw (classes i here, classes (i - 1) (omega arith)) (good.each_class i here);
        irb_count = irb_count;
        irb_row = irb_row;
        length_is = size;
      }
