-- A sheet of seven facts, where its words are good, gets the answer and the lines of the same sheet in either unit of risk weights: nothing of a deal depends on the unit. No axioms.
use mathlib.Core.Bool.{Bool, true, false}
use mathlib.Core.List.{List}
use mathlib.Core.Path.{◌≡◌, refl, ap}
use Prim.Native.Nat.{ℕ, ◌+◌, ◌*◌, ◌≤◌, ◌<◌}
use native.Mathlib.Nat.{add-zero, le_refl}
use native.Mathlib.Omega.{arith}
use lib.Dec.{eqb}
use borrow.Author.Tests.{leb-true, eqb-true, eqb-false}
use Rattle.faults.specs.GoodWords.{GoodFact}
use Rattle.judgement.specs.DealSheet.{word, pool_kind, resecuritisation, reporting_date, unit_at, in_hundredths, pool_at, rows, row_at, weight_word, weight_unit, risk_weight, tranches_at, tranche_count, tranche_at, needed, irb_at}
use Rattle.judgement.specs.GoodSheet.{GoodRowOf, GoodTrancheOf, GoodSheet}
use Rattle.judgement.specs.Refusals.{judged, words_verdict}
use Rattle.judgement.specs.Verdicts.{Sound}
use Rattle.judgement.proofs.GoodSheetLaw.{good_sheet, good_sheet_words}
use Rattle.judgement.proofs.JudgedLaws.{good_judged, words_accepted, accepted_words}
use Rattle.judgement.proofs.NeededLaws.{tranches_at_past_rows, irb_at_past_tranches}
use Rattle.judgement.proofs.SheetLimits.{risk_weight_most}
use Rattle.judgement.proofs.AlikeSheets.{same_irb_column, same_irb_count, same_irb_row, good_alike}
use Rattle.judgement.proofs.SameLayout.{SameCounts, same_counts, same_needed, SameFacts, same_facts, same_reporting_date, same_irb_figures}
use Rattle.pool.specs.PoolSums.{pool_sums}
use Rattle.pool.specs.BlockSums.{block_sums}
use Rattle.pool.proofs.SameSums.{reweighed_sums, reweighed_blocks}
use Rattle.deal.specs.InferredRatings.{infers_ratings}
use Rattle.deal.specs.Lines.{terms, tranche}
use Rattle.weights.specs.declared.Terms.{Terms}
use Rattle.deal.specs.EitherUnit.{EitherUnit}
use Rattle.deal.specs.SameAnswer.{SameAnswer}
use Rattle.deal.proofs.SameAnswer.{same_answer}
use Rattle.deal.proofs.SameTerms.{same_terms, same_months, alike_tranche}

-- a word whose weight in hundredths is at most 1250% is within its unit's limit
within_unit : (hundredths : Bool) (w : ℕ) → weight_unit hundredths * w ≤ 125000 → (hundredths ≡ false → w ≤ 1250) × (hundredths ≡ true → w ≤ 125000)
within_unit hundredths w most = (λ percent. omega (arith, rw percent at most), λ fine. omega (arith, rw fine at most))

module _ (s s' : List ℕ) (r : EitherUnit s s') (words : words_verdict s ≡ Sound) where
  good : GoodSheet s
  good = good_sheet s (words_accepted s words)

  -- ---- what is the same: every word but the seventh fact and the risk weights

  unit_before_pool : unit_at < pool_at s
  unfolding pool_at
  unit_before_pool = omega (arith, leb-true unit_at (word s 0) r.seven_facts)

  same_before : (p : ℕ) → (p ≡ unit_at → ⊥) → p ≤ pool_at s → word s' p ≡ word s p
  same_before p other h = r.same_word p other (λ i l e. omega arith)

  same_after : (p : ℕ) → tranches_at s ≤ p → word s' p ≡ word s p
  same_after p h =
      r.same_word p (λ e. omega (arith, unit_before_pool, tranches_at_past_rows s)) (λ i l e. omega (arith, tranches_at_past_rows s))

  first : word s' 0 ≡ word s 0
  first = same_before 0 (λ e. omega arith) (omega arith)

  counts : SameCounts s s'
  counts =
      same_counts s s' first (same_before (pool_at s) (λ e. omega (arith, unit_before_pool)) (le_refl _)) (same_after (tranches_at s) (le_refl _))

  kind : pool_kind s' ≡ pool_kind s
  kind = same_before 1 (λ e. omega arith) (omega (arith, unit_before_pool))

  facts : SameFacts s s'
  facts = same_facts s s' (λ p other h before. same_before p (λ e. omega arith) (omega arith)) (omega (arith, unit_before_pool))

  date : reporting_date s' ≡ reporting_date s
  date = same_reporting_date s s' first (λ before. same_before 6 (λ e. omega arith) (omega arith))

  same_row_word : (i c : ℕ) → i < rows s → (c ≡ 2 → ⊥) → c < 4 → word s' (row_at s' i + c) ≡ word s (row_at s i + c)
  same_row_word i c row other column =
      rw counts.pool_at_same
      (r.same_word (row_at s i + c) (λ e. omega (arith, unit_before_pool))
      (λ j l e.
      let is : c ≡ 2 = omega arith in
      other is))

  same_column : (j c : ℕ) → word s' (tranche_at s' j + c) ≡ word s (tranche_at s j + c)
  same_column j c = rw counts.tranches_at_same (same_after (tranche_at s j + c) (omega arith))

  section : (p : ℕ) → irb_at s ≤ p → word s' p ≡ word s p
  section p after = same_after p (omega (arith, irb_at_past_tranches s))

  -- ---- the words of the sheet in either unit are good

  fact_in_unit : (p : ℕ) → 1 ≤ p → p < pool_at s → GoodFact (resecuritisation s') p (word s' p)
  fact_in_unit p least before = by_place (eqb p unit_at) refl
    where
      by_place : (seventh : Bool) → eqb p unit_at ≡ seventh → GoodFact (resecuritisation s') p (word s' p)
      by_place true at =
          let is = eqb-true p unit_at at in
          record {
            pool_kind_good = λ e. absurd (omega arith);
            code = λ h other. rw is r.unit_code;
            mark = λ e _. absurd (omega arith);
            reporting_date_good = λ e. absurd (omega arith);
          }
      by_place false at =
          rw (facts.same_resecuritisation, same_before p (eqb-false p unit_at at) (omega arith)) (good.each_fact p least before)

  row_in_unit : (i : ℕ) → i < rows s → GoodRowOf s' i
  row_in_unit i row =
      let g = good.each_row i row in
      let e : word s' (row_at s' i) ≡ word s (row_at s i) = simp add-zero at (same_row_word i 0 row (λ e. omega arith) (omega arith)) in
      let n = same_row_word i 1 row (λ e. omega arith) (omega arith) in
      let t = same_row_word i 3 row (λ e. omega arith) (omega arith) in
      let sound : judged s (needed s) ≡ Sound = good_judged s (needed s) (words_accepted s words).good in
      let most : risk_weight s' i ≤ 125000 = rw (r.same_weight i row) (risk_weight_most s i sound row) in
      let weight = within_unit (in_hundredths s') (weight_word s' i) most in
      record {
        exposure_least = rw e g.exposure_least;
        exposure_most = rw e g.exposure_most;
        nominal_least = rw n g.nominal_least;
        nominal_most = rw n g.nominal_most;
        weight_percent = weight.0;
        weight_hundredths = weight.1;
        status_ordinary = λ ordinary. rw t (g.status_ordinary (rw facts.same_resecuritisation at ordinary));
        status_resecuritised = λ again. rw t (g.status_resecuritised (rw facts.same_resecuritisation at again));
      }

  tranche_in_unit : (i : ℕ) → i < tranche_count s → GoodTrancheOf s' i
  tranche_in_unit i row =
      rw (
        date,
        simp add-zero at (same_column i 0),
        same_column i 2,
        same_column i 3,
        same_column i 4,
        same_column i 5,
        same_column i 6,
      )
      (good.each_tranche i row)

  pub good_in_unit : GoodSheet s'
  good_in_unit =
      good_alike s s' good first counts fact_in_unit row_in_unit tranche_in_unit
      (λ i row. same_column i 1)
      (same_irb_count s s' good first counts kind section)
      (same_irb_row s s' good first counts kind section)
      (omega (arith, r.same_length, good.length_is, same_needed s s' counts kind))

  -- ---- the terms, the tranches and the answer

  pub same_sums_in_unit : pool_sums s' ≡ pool_sums s
  same_sums_in_unit = reweighed_sums s s' counts.row_count same_row_word r.same_weight

  pub same_blocks_in_unit : (b : ℕ) → block_sums s' b ≡ block_sums s b
  same_blocks_in_unit = reweighed_blocks s s' counts.row_count same_row_word r.same_weight

  -- "charge and cap": both are among them
  pub same_terms_in_unit : terms s' ≡ terms s
  same_terms_in_unit =
      same_terms s s' kind facts
      (same_irb_figures s s' kind (λ c column. same_irb_column s s' good first counts kind section c))
      same_sums_in_unit

  own : (i : ℕ) → i < tranche_count s → tranche s' i ≡ tranche s i
  own =
      alike_tranche s s' counts.tranche_count_same same_sums_in_unit (ap infers_ratings same_terms_in_unit)
      (λ j c row other column. same_column j c)
      (λ j row. same_months s s' j date (same_column j 2))

  pub either_unit : SameAnswer s s'
  either_unit =
      same_answer s s'
      (record {
        words = words;
        words' = accepted_words s' (good_sheet_words s' good_in_unit);
        place = counts.tranches_at_same;
        count = counts.tranche_count_same;
        charge = ap (λ (d : Terms). d.charge) same_terms_in_unit;
        thin_alike = λ i l. rw (own i l, same_terms_in_unit);
        line_alike = λ i l. rw (own i l, same_terms_in_unit);
      })
