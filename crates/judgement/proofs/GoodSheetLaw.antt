-- A sheet keeps the limits of 01's "The deal sheet" and 02's S-1, S-3, S-5 and S-9 just when each word that it needs is there and has no fault, and none follows. No axioms.
use mathlib.Core.Bool.{Bool, true, false}
use mathlib.Core.List.{List}
use mathlib.Core.Logic.{⊎_elim}
use mathlib.Core.Path.{◌≡◌, refl, ap, ◌∙◌}
use Prim.Native.Nat.{ℕ, zero, suc, ◌+◌, ◌-◌, ◌≤◌, ◌<◌}
use native.Mathlib.Nat.{add-zero, eq-or-lt_of_le, eq-zero-or-pos}
use native.Mathlib.Omega.{arith}
use Rattle.limits.specs.SheetSize.{facts_least, facts_most, rows_most, tranches_most, irb_rows}
use Rattle.faults.specs.WordFaults.{row_fault, tranche_fault, irb_fault}
use Rattle.numbers.proofs.Tests.{within_is}
use Rattle.faults.proofs.GoodWordsLaw.{fact_good, exposure_good, nominal_good, weight_good, row_status_good, class_good, amount_good, maturity_good, held_good, first_good, second_good, third_good, irb_charge_good, irb_loss_good, irb_loans_good, irb_retail_good, irb_share_good, irb_average_good}
use Rattle.judgement.specs.DealSheet.{word, pool_kind, resecuritisation, reporting_date, in_hundredths, pool_at, rows, row_at, tranches_at, tranche_count, tranche_at, amount, class, has_irb, irb_at, irb_place, needed}
use Rattle.judgement.specs.Refusals.{fault}
use Rattle.judgement.specs.Judged.{WordsGood}
use Rattle.judgement.specs.GoodSheet.{GoodRowOf, GoodIrbOf, GoodSheet}
use Rattle.judgement.proofs.NeededLaws.{tranches_at_past_rows, irb_at_past_tranches, needed_is, irb_words_lem, no_irb_words}
use Rattle.judgement.proofs.Judgement.{fault_of_fact_count, fault_of_fact, fault_of_pool_count, fault_of_row, fault_of_tranche_count, fault_of_tranche, fault_of_irb_count, fault_of_irb, in_section}
use Rattle.judgement.proofs.SheetLimits.{facts_within, facts_counted, pool_counted, tranches_counted, rows_within, tranches_within, good_fact_of, good_row, good_class_of, good_tranche, irb_counted, good_irb}
use Rattle.judgement.proofs.JudgedLaws.{good_judged}

-- ---- a sheet whose words are good keeps the limits

pub good_sheet : (s : List ℕ) → WordsGood s → GoodSheet s
good_sheet s words =
    let sound = good_judged s (needed s) words.good in
    let facts = facts_within s (facts_counted s sound) in
    let many = rows_within s (pool_counted s sound) in
    let tranches = tranches_within s (tranches_counted s sound) in
    record {
      facts_at_least = facts.0;
      facts_at_most = facts.1;
      each_fact = λ p least before. good_fact_of s p sound least before;
      rows_least = many.0;
      rows_at_most = many.1;
      each_row = λ i row. good_row s i sound row;
      tranches_least = tranches.0;
      tranches_at_most = tranches.1;
      each_tranche = λ i row. good_tranche s i sound row;
      each_class = λ i row. good_class_of s i sound row;
      irb_count = λ has. irb_counted s sound has;
      irb_row = λ has. good_irb s sound has;
      length_is = words.none_follows;
    }

-- ---- the words of a row, of a tranche and of the IRB section, by column

row_sound : (s : List ℕ) (i c : ℕ) → GoodRowOf s i → c < 4 → row_fault (resecuritisation s) (in_hundredths s) c (word s (row_at s i + c)) ≡ 0
row_sound s i zero g column = rw (add-zero (row_at s i)) (exposure_good _ _ _ _ _ _ g)
row_sound s i (suc zero) g column = nominal_good _ _ _ _ _ _ g
row_sound s i (suc (suc zero)) g column = weight_good _ _ _ _ _ _ g
row_sound s i (suc (suc (suc zero))) g column = row_status_good _ _ _ _ _ _ g
row_sound s i (suc (suc (suc (suc c)))) g column = absurd (omega arith)

tranche_sound :
    (s : List ℕ) (i c : ℕ) → GoodSheet s → i < tranche_count s → c < 7 →
    tranche_fault (reporting_date s) i (class s (i - 1)) (amount s i) c (word s (tranche_at s i + c)) ≡ 0
tranche_sound s i c g row = by_column c
  where
    by_column : (c : ℕ) → c < 7 → tranche_fault (reporting_date s) i (class s (i - 1)) (amount s i) c (word s (tranche_at s i + c)) ≡ 0
    by_column zero h = rw (add-zero (tranche_at s i)) (amount_good (reporting_date s) i (class s (i - 1)) _ _ _ _ _ _ (g.each_tranche i row))
    by_column (suc zero) h = class_good (reporting_date s) i (class s (i - 1)) (amount s i) (class s i) (g.each_class i row)
    by_column (suc (suc zero)) h = maturity_good (reporting_date s) i (class s (i - 1)) _ _ _ _ _ _ (g.each_tranche i row)
    by_column (suc (suc (suc zero))) h = held_good (reporting_date s) i (class s (i - 1)) _ _ _ _ _ _ (g.each_tranche i row)
    by_column (suc (suc (suc (suc zero)))) h = first_good (reporting_date s) i (class s (i - 1)) _ _ _ _ _ _ (g.each_tranche i row)
    by_column (suc (suc (suc (suc (suc zero))))) h = second_good (reporting_date s) i (class s (i - 1)) _ _ _ _ _ _ (g.each_tranche i row)
    by_column (suc (suc (suc (suc (suc (suc zero)))))) h = third_good (reporting_date s) i (class s (i - 1)) _ _ _ _ _ _ (g.each_tranche i row)
    by_column (suc (suc (suc (suc (suc (suc (suc c))))))) h = absurd (omega arith)

irb_sound : (s : List ℕ) (c : ℕ) → GoodIrbOf s → c < 6 → irb_fault (pool_kind s) c (word s (irb_place s c)) ≡ 0
irb_sound s zero g column = irb_charge_good (pool_kind s) _ _ _ _ _ _ g
irb_sound s (suc zero) g column = irb_loss_good (pool_kind s) _ _ _ _ _ _ g
irb_sound s (suc (suc zero)) g column = irb_loans_good (pool_kind s) _ _ _ _ _ _ g
irb_sound s (suc (suc (suc zero))) g column = irb_retail_good (pool_kind s) _ _ _ _ _ _ g
irb_sound s (suc (suc (suc (suc zero)))) g column = irb_share_good (pool_kind s) _ _ _ _ _ _ g
irb_sound s (suc (suc (suc (suc (suc zero))))) g column = irb_average_good (pool_kind s) _ _ _ _ _ _ g
irb_sound s (suc (suc (suc (suc (suc (suc c)))))) g column = absurd (omega arith)

-- ---- a sheet that keeps the limits has no bad word

module _ (s : List ℕ) (g : GoodSheet s) where
  fact_place : (p : ℕ) → p < pool_at s → fault s p ≡ 0
  fact_place p before =
      ⊎_elim
      (λ first. rw first (fault_of_fact_count s ∙ simp (within_is facts_least facts_most (word s 0) g.facts_at_least g.facts_at_most)))
      (λ later. fault_of_fact s p later before ∙ fact_good (resecuritisation s) p (word s p) later (g.each_fact p later before))
      (eq-zero-or-pos p)

  pool_place : (p : ℕ) → pool_at s ≤ p → p < tranches_at s → fault s p ≡ 0
  pool_place p after before =
      ⊎_elim
      (λ count. rw (← count) (fault_of_pool_count s ∙ simp (within_is 1 rows_most (rows s) g.rows_least g.rows_at_most)))
      (λ later.
      let at = in_section 4 (pool_at s) (rows s) p (omega arith) later (omega (arith, tranches_at_past_rows s)) in
      ap (fault s) at.place ∙
      fault_of_row s at.i at.c at.row at.column ∙
      row_sound s at.i at.c (g.each_row at.i at.row) at.column)
      (eq-or-lt_of_le after)

  tranche_place : (p : ℕ) → tranches_at s ≤ p → p < irb_at s → fault s p ≡ 0
  tranche_place p after before =
      ⊎_elim
      (λ count.
      rw (← count) (fault_of_tranche_count s ∙ simp (within_is 1 tranches_most (tranche_count s) g.tranches_least g.tranches_at_most)))
      (λ later.
      let at = in_section 7 (tranches_at s) (tranche_count s) p (omega arith) later (omega (arith, irb_at_past_tranches s)) in
      ap (fault s) at.place ∙
      fault_of_tranche s at.i at.c at.row at.column ∙
      tranche_sound s at.i at.c g at.row at.column)
      (eq-or-lt_of_le after)

  -- past the tranches stands the IRB section or nothing
  irb_place_lem : (p : ℕ) → irb_at s ≤ p → p < needed s → fault s p ≡ 0
  irb_place_lem p after before = by_kind (has_irb s) refl
    where
      by_kind : (has : Bool) → has_irb s ≡ has → fault s p ≡ 0
      by_kind false none = absurd (omega (arith, needed_is s, no_irb_words s none))
      by_kind true has =
          ⊎_elim
          (λ count.
          rw (← count)
          (fault_of_irb_count s ∙
          simp (within_is irb_rows irb_rows (word s (irb_at s)) (omega (arith, g.irb_count has)) (omega (arith, g.irb_count has)))))
          (λ later.
          let c = p - (irb_at s + 1) in
          let place : p ≡ irb_place s (p - (irb_at s + 1)) = omega arith in
          let column : p - (irb_at s + 1) < 6 = omega (arith, needed_is s, irb_words_lem s has) in
          ap (fault s) place ∙ fault_of_irb s c column ∙ irb_sound s c (g.irb_row has) column)
          (eq-or-lt_of_le after)

  no_fault : (p : ℕ) → p < needed s → fault s p ≡ 0
  no_fault p before =
      ⊎_elim
      (λ past_facts.
      ⊎_elim
      (λ past-pool.
      ⊎_elim
      (λ past-tranches. irb_place_lem p (omega arith) before)
      (λ in-tranches. tranche_place p (omega arith) (omega arith))
      (eq-zero-or-pos (irb_at s - p)))
      (λ in_rows. pool_place p (omega arith) (omega arith))
      (eq-zero-or-pos (tranches_at s - p)))
      (λ in-facts. fact_place p (omega arith))
      (eq-zero-or-pos (pool_at s - p))

pub good_sheet_words : (s : List ℕ) → GoodSheet s → WordsGood s
good_sheet_words s g =
    record {
      good = λ p h. record { there = omega (arith, g.length_is); no_fault = no_fault s g p h };
      none_follows = g.length_is;
    }
