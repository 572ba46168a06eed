-- Two sheets whose counts are the same have their sections at the same places; two whose words before the pool's count are the same have the same facts; a pool row of the same
-- words at the same place stays good; and two of the same pool kind whose IRB sections have the same words have the same figures, wherever these words stand. No axioms.
use mathlib.Core.List.{List}
use mathlib.Core.Path.{◌≡◌, sym, ap, ◌∙◌}
use Prim.Native.Nat.{ℕ, ◌+◌, ◌≤◌, ◌<◌}
use native.Mathlib.Nat.{add-zero}
use native.Mathlib.Omega.{arith}
use borrow.Author.Tests.{leb-true, leb-false, lt-leb}
use Rattle.numbers.proofs.Tests.{at_cond}
use Rattle.limits.specs.SheetSize.{facts_least}
use Rattle.judgement.specs.DealSheet.{word, pool_kind, resecuritisation, due_diligence, composition_known, has_fact, fact, stc, reporting_date, unit_at, in_hundredths, pool_at, rows, row_at, tranches_at, tranche_count, irb_at, irb_place, irb_figures, needed}
use Rattle.judgement.specs.GoodSheet.{GoodRowOf}
use Rattle.judgement.proofs.NeededLaws.{irb_at_past_tranches, needed_is}

pub record SameCounts (s s' : List ℕ) : Type 0 where
  pub pool_at_same : pool_at s' ≡ pool_at s
  pub row_count : rows s' ≡ rows s
  pub tranches_at_same : tranches_at s' ≡ tranches_at s
  pub tranche_count_same : tranche_count s' ≡ tranche_count s

pub same_counts :
    (s s' : List ℕ) → word s' 0 ≡ word s 0 → word s' (pool_at s) ≡ word s (pool_at s) → word s' (tranches_at s) ≡ word s (tranches_at s) → SameCounts s s'
unfolding pool_at rows tranches_at tranche_count
same_counts s s' facts row_count count =
    let pool : pool_at s' ≡ pool_at s = ap (λ (w : ℕ). 1 + w) facts in
    let many : rows s' ≡ rows s = ap (word s') pool ∙ row_count in
    let place : tranches_at s' ≡ tranches_at s = omega arith in
    record {
      pool_at_same = pool;
      row_count = many;
      tranches_at_same = place;
      tranche_count_same = ap (word s') place ∙ count;
    }

pub same_irb_at : (s s' : List ℕ) → SameCounts s s' → irb_at s' ≡ irb_at s
same_irb_at s s' counts = omega (arith, irb_at_past_tranches s, irb_at_past_tranches s', counts.tranches_at_same, counts.tranche_count_same)

pub same_needed : (s s' : List ℕ) → SameCounts s s' → pool_kind s' ≡ pool_kind s → needed s' ≡ needed s
same_needed s s' counts kind = needed_is s' ∙ rw (same_irb_at s s' counts, kind) (sym (needed_is s))

-- ---- the figures of the IRB section

pub same_irb_figures :
    (s s' : List ℕ) → pool_kind s' ≡ pool_kind s → ((c : ℕ) → c < 6 → word s' (irb_place s' c) ≡ word s (irb_place s c)) → irb_figures s' ≡ irb_figures s
unfolding irb_figures
same_irb_figures s s' kind alike =
    rw (
      kind,
      alike 0 (omega arith),
      alike 1 (omega arith),
      alike 2 (omega arith),
      alike 3 (omega arith),
      alike 4 (omega arith),
      alike 5 (omega arith),
    )

-- ---- the facts that the terms of a deal read, but for the pool's kind; neither the reporting date nor the unit of risk weights is among them

pub record SameFacts (s s' : List ℕ) : Type 0 where
  pub same_resecuritisation : resecuritisation s' ≡ resecuritisation s
  pub same_stc : stc s' ≡ stc s
  pub same_diligence : due_diligence s' ≡ due_diligence s
  pub same_composition : composition_known s' ≡ composition_known s

-- a fact that not every sheet has, in a list that may be longer: the same word where both have it, and a 0 where the shorter list has ended
pub same_fact :
    (s s' : List ℕ) (n : ℕ) → word s 0 ≤ word s' 0 → (n ≤ word s 0 → word s' n ≡ word s n) → (word s 0 < n → n ≤ word s' 0 → word s' n ≡ 0) →
    fact s' n ≡ fact s n
same_fact s s' n longer kept ended =
    at_cond (λ x. x ≡ fact s n) (has_fact s' n) (word s' n) 0
    (λ within.
    at_cond (λ y. word s' n ≡ y) (has_fact s n) (word s n) 0
    (λ here. kept (omega (arith, leb-true n _ here)))
    (λ past. ended (omega (arith, leb-false n _ past)) (omega (arith, leb-true n _ within))))
    (λ past. sym (simp (lt-leb n (word s 0) (omega (arith, leb-false n _ past)))))

-- the facts of two lists of the same length
same_listed_fact :
    (s s' : List ℕ) (n : ℕ) → word s' 0 ≡ word s 0 → (n < pool_at s → word s' n ≡ word s n) → fact s' n ≡ fact s n
unfolding pool_at
same_listed_fact s s' n count kept = same_fact s s' n (omega arith) (λ h. kept (omega arith)) (λ h l. absurd (omega arith))

pub same_facts :
    (s s' : List ℕ) → ((p : ℕ) → (p ≡ 1 → ⊥) → p < 6 → p < pool_at s → word s' p ≡ word s p) → facts_least < pool_at s → SameFacts s s'
same_facts s s' before facts =
    record {
      same_resecuritisation = rw (before 2 (λ e. omega arith) (omega arith) (omega arith));
      same_stc = rw (same_listed_fact s s' 5 (before 0 (λ e. omega arith) (omega arith) (omega arith)) (before 5 (λ e. omega arith) (omega arith)));
      same_diligence = rw (before 3 (λ e. omega arith) (omega arith) (omega arith));
      same_composition = rw (before 4 (λ e. omega arith) (omega arith) (omega arith));
    }

pub same_reporting_date : (s s' : List ℕ) → word s' 0 ≡ word s 0 → (6 < pool_at s → word s' 6 ≡ word s 6) → reporting_date s' ≡ reporting_date s
same_reporting_date s s' count kept = same_listed_fact s s' 6 count kept

pub same_unit : (s s' : List ℕ) → word s' 0 ≡ word s 0 → (unit_at < pool_at s → word s' unit_at ≡ word s unit_at) → in_hundredths s' ≡ in_hundredths s
same_unit s s' count kept = rw (same_listed_fact s s' unit_at count kept)

-- ---- a pool row

pub same_good_row :
    (s s' : List ℕ) (i : ℕ) → resecuritisation s' ≡ resecuritisation s → in_hundredths s' ≡ in_hundredths s → pool_at s' ≡ pool_at s →
    ((c : ℕ) → c < 4 → word s' (row_at s i + c) ≡ word s (row_at s i + c)) → GoodRowOf s i → GoodRowOf s' i
same_good_row s s' i resecuritised unit place alike good =
    rw (
      resecuritised,
      unit,
      place,
      simp add-zero at (alike 0 (omega arith)),
      alike 1 (omega arith),
      alike 2 (omega arith),
      alike 3 (omega arith),
    )
    good
