-- A sheet with an IRB section to which approach 3 does not apply, where its words are good, gets the answer and the lines of the same sheet of an SA pool, without the
-- section. No axioms.
use mathlib.Core.Bool.{Bool, true, false}
use mathlib.Core.List.{List}
use mathlib.Core.Path.{◌≡◌, refl, sym, ap, ◌∙◌}
use Prim.Native.Nat.{ℕ, ◌+◌, ◌≤◌, ◌<◌}
use native.Mathlib.Nat.{add-zero, le_refl}
use native.Mathlib.Omega.{arith}
use lib.Dec.{eqb}
use borrow.Author.Tests.{eqb-true, eqb-false}
use Rattle.numbers.proofs.Tests.{true_not_false}
use Rattle.limits.specs.SheetSize.{facts_least}
use Rattle.faults.specs.GoodWords.{GoodFact}
use Rattle.judgement.specs.DealSheet.{word, pool_kind, resecuritisation, due_diligence, reporting_date, unit_at, in_hundredths, pool_at, rows, row_at, tranches_at, tranche_count, tranche_at, has_irb, irb_figures, layout}
use Rattle.judgement.specs.GoodSheet.{GoodRowOf, GoodTrancheOf, GoodSheet}
use Rattle.judgement.specs.Refusals.{words_verdict}
use Rattle.judgement.specs.Verdicts.{Sound}
use Rattle.judgement.proofs.GoodSheetLaw.{good_sheet, good_sheet_words}
use Rattle.judgement.proofs.JudgedLaws.{words_accepted, accepted_words}
use Rattle.judgement.proofs.NeededLaws.{has_no_irb, no_irb_words, needed_is, tranches_at_past_rows, irb_at_past_tranches}
use Rattle.judgement.proofs.AlikeSheets.{good_alike}
use Rattle.judgement.proofs.SameLayout.{SameCounts, same_counts, same_irb_at, SameFacts, same_facts, same_unit, same_reporting_date, same_good_row}
use Rattle.pool.specs.PoolSums.{pool_sums}
use Rattle.pool.proofs.SameSums.{same_sums_in_order}
use Rattle.weights.specs.ApproachFloorCap.{thin}
use Rattle.weights.proofs.WeightLaws.{with_figures, figures_unread}
use Rattle.weights.specs.declared.Terms.{Terms}
use Rattle.deal.specs.InferredRatings.{infers_ratings}
use Rattle.deal.specs.Lines.{terms, tranche, line, line_words}
use Rattle.deal.specs.SaPool.{AsSaPool}
use Rattle.deal.specs.SameAnswer.{SameAnswer}
use Rattle.deal.proofs.SameAnswer.{same_answer}
use Rattle.deal.proofs.IrbaLaws.{sa_pool_not_irba}
use Rattle.deal.proofs.SameTerms.{same_months, alike_tranche}

module _ (s s' : List ℕ) (r : AsSaPool s s') (words : words_verdict s ≡ Sound) where
  good : GoodSheet s
  good = good_sheet s (words_accepted s words)

  -- ---- what is the same: every word before the section but the pool's kind

  facts_before_pool : facts_least < pool_at s
  unfolding pool_at
  facts_before_pool = omega (arith, good.facts_at_least)

  same_column : (j c : ℕ) → j < tranche_count s → c < 7 → word s' (tranche_at s j + c) ≡ word s (tranche_at s j + c)
  same_column j c among column =
      r.same_word (tranche_at s j + c) (λ e. omega (arith, tranches_at_past_rows s, facts_before_pool)) (omega (arith, irb_at_past_tranches s))

  same_before : (p : ℕ) → (p ≡ 1 → ⊥) → p ≤ tranches_at s → word s' p ≡ word s p
  same_before p other h = r.same_word p other (omega (arith, irb_at_past_tranches s))

  counts : SameCounts s s'
  counts =
      same_counts s s' (same_before 0 (λ e. omega arith) (omega arith))
      (same_before (pool_at s) (λ e. omega (arith, facts_before_pool)) (omega (arith, tranches_at_past_rows s)))
      (same_before (tranches_at s) (λ e. omega (arith, facts_before_pool, tranches_at_past_rows s)) (le_refl _))

  facts : SameFacts s s'
  facts = same_facts s s' (λ p other h before. same_before p other (omega (arith, tranches_at_past_rows s))) facts_before_pool

  date : reporting_date s' ≡ reporting_date s
  date =
      same_reporting_date s s' (same_before 0 (λ e. omega arith) (omega arith))
      (λ before. same_before 6 (λ e. omega arith) (omega (arith, tranches_at_past_rows s)))

  unit : in_hundredths s' ≡ in_hundredths s
  unit =
      same_unit s s' (same_before 0 (λ e. omega arith) (omega arith))
      (λ before. same_before unit_at (λ e. omega arith) (omega (arith, tranches_at_past_rows s)))

  same_row_word : (i c : ℕ) → i < rows s → c < 4 → word s' (row_at s i + c) ≡ word s (row_at s i + c)
  same_row_word i c row column =
      same_before (row_at s i + c) (λ e. omega (arith, facts_before_pool)) (omega (arith, tranches_at_past_rows s))

  -- ---- the words of the sheet of an SA pool are good

  no_irb : has_irb s' ≡ false
  no_irb = has_no_irb s' r.sa

  no_irb_either : has_irb s' ≡ true → ⊥
  no_irb_either has = true_not_false (sym has ∙ no_irb)

  fact_of_sa : (p : ℕ) → 1 ≤ p → p < pool_at s → GoodFact (resecuritisation s') p (word s' p)
  fact_of_sa p least before = by_place (eqb p 1) refl
    where
      by_place : (first : Bool) → eqb p 1 ≡ first → GoodFact (resecuritisation s') p (word s' p)
      by_place true at =
          let is = eqb-true p 1 at in
          record {
            pool_kind_good = λ _. rw is (omega (arith, r.sa));
            code = λ h _. absurd (omega arith);
            mark = λ e _. absurd (omega arith);
            reporting_date_good = λ e. absurd (omega arith);
          }
      by_place false at =
          rw (facts.same_resecuritisation, same_before p (eqb-false p 1 at) (omega (arith, tranches_at_past_rows s)))
          (good.each_fact p least before)

  row_of_sa : (i : ℕ) → i < rows s → GoodRowOf s' i
  row_of_sa i row =
      same_good_row s s' i facts.same_resecuritisation unit counts.pool_at_same (λ c column. same_row_word i c row column) (good.each_row i row)

  tranche_of_sa : (i : ℕ) → i < tranche_count s → GoodTrancheOf s' i
  tranche_of_sa i row =
      rw (
        date,
        counts.tranches_at_same,
        simp add-zero at (same_column i 0 row (omega arith)),
        same_column i 2 row (omega arith),
        same_column i 3 row (omega arith),
        same_column i 4 row (omega arith),
        same_column i 5 row (omega arith),
        same_column i 6 row (omega arith),
      )
      (good.each_tranche i row)

  good_of_sa : GoodSheet s'
  good_of_sa =
      good_alike s s' good (same_before 0 (λ e. omega arith) (omega arith)) counts fact_of_sa row_of_sa tranche_of_sa
      (λ i row. rw counts.tranches_at_same (same_column i 1 row (omega arith)))
      (λ has. absurd (no_irb_either has))
      (λ has. absurd (no_irb_either has))
      (omega (arith, r.no_section, needed_is s', no_irb_words s' no_irb, same_irb_at s s' counts))

  words_of_sa : words_verdict s' ≡ Sound
  words_of_sa = accepted_words s' (good_sheet_words s' good_of_sa)

  -- ---- the terms but for the figures of the section, which no line reads, and the tranches

  sums : pool_sums s' ≡ pool_sums s
  sums = same_sums_in_order s s' counts.row_count unit (λ i c row column. rw counts.pool_at_same (same_row_word i c row column))

  not_irba' : (terms s').irba ≡ false
  unfolding terms layout
  not_irba' = sa_pool_not_irba (due_diligence s') (resecuritisation s') (pool_kind s') (irb_figures s').share r.sa

  shared : terms s' ≡ with_figures (terms s) (irb_figures s')
  unfolding terms layout
  shared =
      rw (not_irba', r.not_irba)
      (rw (facts.same_resecuritisation, facts.same_stc, facts.same_diligence, facts.same_composition, sums))

  own : (i : ℕ) → i < tranche_count s → tranche s' i ≡ tranche s i
  own =
      alike_tranche s s' counts.tranche_count_same sums (ap infers_ratings shared)
      (λ j c row other column. rw counts.tranches_at_same (same_column j c row column))
      (λ j row. same_months s s' j date (rw counts.tranches_at_same (same_column j 2 row (omega arith))))

  same_line : (i : ℕ) → i < tranche_count s → line_words (tranche s' i) (terms s') ≡ line_words (tranche s i) (terms s)
  unfolding line_words line
  same_line i l = rw (own i l, shared) (rw (figures_unread (tranche s i) (terms s) (irb_figures s') r.not_irba))

  same_thinness : (i : ℕ) → i < tranche_count s → thin (tranche s' i) (terms s') ≡ thin (tranche s i) (terms s)
  unfolding thin
  same_thinness i l = rw (own i l, shared)

  pub as_sa_pool : SameAnswer s s'
  as_sa_pool =
      same_answer s s'
      (record {
        words = words;
        words' = words_of_sa;
        place = counts.tranches_at_same;
        count = counts.tranche_count_same;
        charge = ap (λ (d : Terms). d.charge) shared;
        thin_alike = same_thinness;
        line_alike = same_line;
      })
