-- A sheet with a reporting date, where its words are good, gets the answer and the lines of the same sheet in months: nothing else of a deal depends on how its maturities
-- are written. No axioms.
use mathlib.Core.Bool.{Bool, true, false}
use mathlib.Core.List.{List}
use mathlib.Core.Logic.{inl}
use mathlib.Core.Path.{◌≡◌, refl, ap, ◌∙◌}
use Prim.Native.Nat.{ℕ, ◌+◌, ◌≤◌, ◌<◌}
use native.Mathlib.Nat.{add-zero, le_refl}
use native.Mathlib.Omega.{arith}
use lib.Dec.{eqb}
use borrow.Author.Tests.{leb-true, eqb-true, eqb-false}
use Rattle.numbers.proofs.Tests.{at_cond}
use Rattle.faults.specs.GoodWords.{GoodFact, GoodTranche}
use Rattle.judgement.specs.DealSheet.{word, pool_kind, resecuritisation, has_fact, reporting_date, unit_at, in_hundredths, pool_at, rows, row_at, tranches_at, tranche_count, tranche_at, amount, months, held, first_rating, second_rating, third_rating, irb_at}
use Rattle.judgement.specs.GoodSheet.{GoodRowOf, GoodTrancheOf, GoodSheet}
use Rattle.judgement.specs.Refusals.{words_verdict}
use Rattle.judgement.specs.Verdicts.{Sound}
use Rattle.judgement.proofs.GoodSheetLaw.{good_sheet, good_sheet_words}
use Rattle.judgement.proofs.JudgedLaws.{words_accepted, accepted_words}
use Rattle.judgement.proofs.NeededLaws.{tranches_at_past_rows, irb_at_past_tranches}
use Rattle.judgement.proofs.AlikeSheets.{same_irb_column, same_irb_count, same_irb_row, good_alike}
use Rattle.judgement.proofs.SameLayout.{SameCounts, same_counts, same_needed, SameFacts, same_facts, same_unit, same_irb_figures, same_good_row}
use Rattle.pool.specs.PoolSums.{pool_sums}
use Rattle.pool.proofs.SameSums.{same_sums_in_order}
use Rattle.deal.specs.InferredRatings.{infers_ratings}
use Rattle.deal.specs.Lines.{terms, tranche}
use Rattle.weights.specs.declared.Terms.{Terms}
use Rattle.deal.specs.InMonths.{InMonths}
use Rattle.deal.specs.SameAnswer.{SameAnswer}
use Rattle.deal.proofs.SameAnswer.{same_answer}
use Rattle.deal.proofs.SameTerms.{same_terms, alike_tranche}

module _ (s s' : List ℕ) (r : InMonths s s') (words : words_verdict s ≡ Sound) where
  good : GoodSheet s
  good = good_sheet s (words_accepted s words)

  -- ---- what is the same: every word but the sixth fact and the maturities

  date_before_pool : 6 < pool_at s
  unfolding pool_at
  date_before_pool = omega (arith, leb-true 6 (word s 0) r.six_facts)

  same_before : (p : ℕ) → (p ≡ 6 → ⊥) → p ≤ tranches_at s → word s' p ≡ word s p
  same_before p other h = r.same_word p other (λ i l e. omega arith)

  same_column : (j c : ℕ) → (c ≡ 2 → ⊥) → c < 7 → word s' (tranche_at s j + c) ≡ word s (tranche_at s j + c)
  same_column j c other h =
      r.same_word (tranche_at s j + c)
      (λ e. omega (arith, date_before_pool, tranches_at_past_rows s))
      (λ i l e.
      let is : c ≡ 2 = omega arith in
      other is)

  first : word s' 0 ≡ word s 0
  first = same_before 0 (λ e. omega arith) (omega arith)

  counts : SameCounts s s'
  counts =
      same_counts s s' first
      (same_before (pool_at s) (λ e. omega (arith, date_before_pool)) (omega (arith, tranches_at_past_rows s)))
      (same_before (tranches_at s) (λ e. omega (arith, date_before_pool, tranches_at_past_rows s)) (le_refl _))

  kind : pool_kind s' ≡ pool_kind s
  kind = same_before 1 (λ e. omega arith) (omega (arith, date_before_pool, tranches_at_past_rows s))

  facts : SameFacts s s'
  facts =
      same_facts s s' (λ p other h before. same_before p (λ e. omega arith) (omega (arith, tranches_at_past_rows s)))
      (omega (arith, date_before_pool))

  unit : in_hundredths s' ≡ in_hundredths s
  unit =
      same_unit s s' first
      (λ before. same_before unit_at (λ e. omega arith) (omega (arith, tranches_at_past_rows s)))

  same_row_word : (i c : ℕ) → i < rows s → c < 4 → word s' (row_at s i + c) ≡ word s (row_at s i + c)
  same_row_word i c row column =
      same_before (row_at s i + c) (λ e. omega (arith, date_before_pool)) (omega (arith, tranches_at_past_rows s))

  -- a maturity stands before the IRB section
  same_irb_word : (p : ℕ) → irb_at s ≤ p → word s' p ≡ word s p
  same_irb_word p after =
      r.same_word p
      (λ e. omega (arith, date_before_pool, tranches_at_past_rows s, irb_at_past_tranches s))
      (λ i l e. omega (arith, irb_at_past_tranches s))

  same_amount : (j : ℕ) → word s' (tranche_at s j) ≡ word s (tranche_at s j)
  same_amount j = simp add-zero at (same_column j 0 (λ e. omega arith) (omega arith))

  -- ---- the maturities: the sheet in months has no reporting date, so each word is its own months

  no_date : reporting_date s' ≡ 0
  no_date = at_cond (λ n. n ≡ 0) (has_fact s' 6) (word s' 6) 0 (λ _. r.no_date) (λ _. refl)

  same_months : (i : ℕ) → i < tranche_count s → months s' i ≡ months s i
  same_months i l = rw (no_date, counts.tranches_at_same) (r.maturity_in_months i l)

  -- ---- the words of the sheet in months are good

  fact_in_months : (p : ℕ) → 1 ≤ p → p < pool_at s → GoodFact (resecuritisation s') p (word s' p)
  fact_in_months p least before = by_place (eqb p 6) refl
    where
      by_place : (sixth : Bool) → eqb p 6 ≡ sixth → GoodFact (resecuritisation s') p (word s' p)
      by_place true at =
          let is = eqb-true p 6 at in
          record {
            pool_kind_good = λ e. absurd (omega arith);
            code = λ h other. absurd (other is);
            mark = λ e _. absurd (omega arith);
            reporting_date_good = λ _. inl (ap (word s') is ∙ r.no_date);
          }
      by_place false at =
          rw (facts.same_resecuritisation, same_before p (eqb-false p 6 at) (omega (arith, tranches_at_past_rows s)))
          (good.each_fact p least before)

  row_in_months : (i : ℕ) → i < rows s → GoodRowOf s' i
  row_in_months i row =
      same_good_row s s' i facts.same_resecuritisation unit counts.pool_at_same (λ c column. same_row_word i c row column) (good.each_row i row)

  -- a tranche's words stay good where its maturity is its months and there is no reporting date
  by_months : (i : ℕ) → i < tranche_count s → GoodTranche 0 (amount s i) (months s i) (held s i) (first_rating s i) (second_rating s i) (third_rating s i)
  by_months i row =
      let g = good.each_tranche i row in
      record {
        amount_least = g.amount_least;
        amount_at_most = g.amount_at_most;
        maturity_day = λ set. absurd (omega arith);
        maturity_after = λ set. absurd (omega arith);
        months_least = g.months_least;
        months_most = g.months_most;
        held_most = g.held_most;
        first_listed = g.first_listed;
        second_listed = g.second_listed;
        third_listed = g.third_listed;
      }

  tranche_in_months : (i : ℕ) → i < tranche_count s → GoodTrancheOf s' i
  tranche_in_months i row =
      rw (
        no_date,
        counts.tranches_at_same,
        same_amount i,
        r.maturity_in_months i row,
        same_column i 3 (λ e. omega arith) (omega arith),
        same_column i 4 (λ e. omega arith) (omega arith),
        same_column i 5 (λ e. omega arith) (omega arith),
        same_column i 6 (λ e. omega arith) (omega arith),
      )
      (by_months i row)

  good_in_months : GoodSheet s'
  good_in_months =
      good_alike s s' good first counts fact_in_months row_in_months tranche_in_months
      (λ i row. rw counts.tranches_at_same (same_column i 1 (λ e. omega arith) (omega arith)))
      (same_irb_count s s' good first counts kind same_irb_word)
      (same_irb_row s s' good first counts kind same_irb_word)
      (omega (arith, r.same_length, good.length_is, same_needed s s' counts kind))

  words_in_months : words_verdict s' ≡ Sound
  words_in_months = accepted_words s' (good_sheet_words s' good_in_months)

  -- ---- the terms, the tranches and the answer

  sums : pool_sums s' ≡ pool_sums s
  sums = same_sums_in_order s s' counts.row_count unit (λ i c row column. rw counts.pool_at_same (same_row_word i c row column))

  shared : terms s' ≡ terms s
  shared =
      same_terms s s' kind facts
      (same_irb_figures s s' kind (λ c column. same_irb_column s s' good first counts kind same_irb_word c))
      sums

  own : (i : ℕ) → i < tranche_count s → tranche s' i ≡ tranche s i
  own =
      alike_tranche s s' counts.tranche_count_same sums (ap infers_ratings shared)
      (λ j c row other column. rw counts.tranches_at_same (same_column j c other column))
      same_months

  pub months_for_dates : SameAnswer s s'
  months_for_dates =
      same_answer s s'
      (record {
        words = words;
        words' = words_in_months;
        place = counts.tranches_at_same;
        count = counts.tranche_count_same;
        charge = ap (λ (d : Terms). d.charge) shared;
        thin_alike = λ i l. rw (own i l, shared);
        line_alike = λ i l. rw (own i l, shared);
      })
