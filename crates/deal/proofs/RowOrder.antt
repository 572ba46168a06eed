-- The order of the pool's rows does not matter: an accepted sheet with its rows in another order is accepted, with the same answer and the same results.
-- No axioms.
use mathlib.Core.List.{List}
use mathlib.Core.Logic.{⊎_elim}
use mathlib.Core.Path.{◌≡◌, sym, ap, ◌∙◌}
use Prim.Native.Nat.{ℕ, ◌+◌, ◌-◌, ◌<◌}
use native.Mathlib.Nat.{eq-zero-or-pos, le_refl}
use native.Mathlib.Omega.{arith}
use lib.ListN.{length}
use borrow.Author.Tests.{lt-ltb}
use Rattle.limits.specs.SheetSize.{facts_least}
use Rattle.judgement.specs.DealSheet.{word, pool_kind, irb_figures, reporting_date, unit_at, in_hundredths, pool_at, rows, row_at, tranches_at, tranche_count, tranche_at, irb_place, needed}
use Rattle.pool.specs.PoolSums.{pool_sums}
use Rattle.pool.specs.OrderOfRows.{Reordered}
use Rattle.pool.proofs.SameSums.{same_sums, same_weight}
use Rattle.deal.specs.InferredRatings.{infers_ratings}
use Rattle.deal.specs.Lines.{terms, tranche}
use Rattle.judgement.specs.Refusals.{row_of, fault, judge, judged}
use Rattle.deal.specs.Refusals.{verdict}
use Rattle.deal.specs.Results.{reply_to, results_after}
use Rattle.deal.specs.Judged.{Accepted}
use Rattle.judgement.specs.Verdicts.{Sound}
use Rattle.judgement.proofs.FirstFault.{first_of_all}
use Rattle.judgement.proofs.NeededLaws.{pool_at_least, tranches_at_past_rows, irb_at_past_tranches, row_word_needed}
use Rattle.judgement.proofs.Judgement.{good_word, fault_of_row, InSection, in_section}
use Rattle.judgement.proofs.SameLayout.{SameCounts, same_counts, same_irb_at, same_needed, SameFacts, same_facts, same_unit, same_irb_figures, same_reporting_date}
use Rattle.judgement.proofs.SheetLimits.{facts_counted, pool_at_within}
use Rattle.judgement.proofs.JudgedLaws.{judged_good}
use Rattle.deal.proofs.JudgedLaws.{accepted_means, accepted_judged, accepted_when}
use Rattle.deal.proofs.LineLaws.{lines_same, results_accepted}
use Rattle.deal.proofs.SameTerms.{same_terms, same_months, alike_tranche}

module _ (s s' : List ℕ) (π σ : ℕ → ℕ) (r : Reordered s s' π σ) where
  -- ---- what the order does not touch

  order_counts : SameCounts s s'
  order_counts =
      same_counts s s' (r.same_before 0 (omega arith)) (r.same_before (pool_at s) (omega arith)) (r.same_after (tranches_at s) (le_refl _))

  order_kind : pool_kind s' ≡ pool_kind s
  order_kind = r.same_before 1 (omega (arith, pool_at_least s))

  order_needed : needed s' ≡ needed s
  order_needed = same_needed s s' order_counts order_kind

  order_unit : in_hundredths s' ≡ in_hundredths s
  order_unit = same_unit s s' (r.same_before 0 (omega arith)) (λ before. r.same_before unit_at (omega arith))

  order_row : (i c : ℕ) → i < rows s → c < 4 → word s' (row_at s' i + c) ≡ word s (row_at s (π i) + c)
  order_row i c row column = rw order_counts.pool_at_same (r.row_moved i c row column)

  order_sums : pool_sums s' ≡ pool_sums s
  order_sums =
      same_sums s s' π σ order_counts.row_count r.permutation
      (λ i c row other column. order_row i c row column)
      (λ i row. same_weight s s' i (π i) order_unit (order_row i 2 row (omega arith)))

  -- ---- where the first word is good, the facts are the same

  module _ (facts : facts_least < pool_at s) where
    order_facts : SameFacts s s'
    order_facts = same_facts s s' (λ p other h before. r.same_before p (omega arith)) facts

    order_irb : irb_figures s' ≡ irb_figures s
    order_irb =
        same_irb_figures s s' order_kind
        (λ c column. rw (same_irb_at s s' order_counts) (r.same_after (irb_place s c) (omega (arith, irb_at_past_tranches s))))

    order_date : reporting_date s' ≡ reporting_date s
    order_date = same_reporting_date s s' (r.same_before 0 (omega arith)) (λ before. r.same_before 6 (omega arith))

    order_terms : terms s' ≡ terms s
    order_terms = same_terms s s' order_kind order_facts order_irb order_sums

    order_word : (j c : ℕ) → word s' (tranche_at s' j + c) ≡ word s (tranche_at s j + c)
    order_word j c = rw order_counts.tranches_at_same (r.same_after (tranche_at s j + c) (omega arith))

    order_tranche : (i : ℕ) → i < tranche_count s → tranche s' i ≡ tranche s i
    order_tranche =
        alike_tranche s s' order_counts.tranche_count_same order_sums (ap infers_ratings order_terms)
        (λ j c row other column. order_word j c)
        (λ j row. same_months s s' j order_date (order_word j 2))

    -- ---- the faults: of a word in its place, and of a word that moved with its row

    fault_in_place : (p : ℕ) → word s' p ≡ word s p → fault s' p ≡ fault s p
    unfolding fault
    fault_in_place p same =
        let i = row_of 7 (tranches_at s) p in
        rw (
          same,
          order_counts.pool_at_same,
          order_counts.tranches_at_same,
          same_irb_at s s' order_counts,
          order_kind,
          order_facts.same_resecuritisation,
          order_date,
          order_unit,
          r.same_after (tranche_at s (i - 1) + 1) (omega arith),
          r.same_after (tranche_at s i) (omega arith),
        )

    fault_moved : (i c : ℕ) → i < rows s → c < 4 → fault s' (row_at s i + c) ≡ fault s (row_at s (π i) + c)
    fault_moved i c row column =
        let place : row_at s' i + c ≡ row_at s i + c = omega (arith, order_counts.pool_at_same) in
        let many : i < rows s' = omega (arith, order_counts.row_count) in
        ap (fault s') (sym place) ∙
        fault_of_row s' i c many column ∙
        rw (place, order_facts.same_resecuritisation, order_unit, r.row_moved i c row column)
        (sym (fault_of_row s (π i) c (r.permutation.forth i row) column))

  -- ---- the judgement

  module _ (good : judged s (needed s) ≡ Sound) where
    facts_before : facts_least < pool_at s
    facts_before = (pool_at_within s (facts_counted s good)).0

    no_fault : (p : ℕ) → p < needed s → fault s' p ≡ 0
    no_fault p l =
        ⊎_elim
        (λ past.
        ⊎_elim
        (λ after. in_place (r.same_after p (omega arith)))
        (λ before. in_row (in_section 4 (pool_at s) (rows s) p (omega arith) (omega arith) (omega (arith, tranches_at_past_rows s))))
        (eq-zero-or-pos (tranches_at s - p)))
        (λ ahead. in_place (r.same_before p (omega arith)))
        (eq-zero-or-pos (row_at s 0 - p))
      where
        in_place : word s' p ≡ word s p → fault s' p ≡ 0
        in_place same = fault_in_place facts_before p same ∙ (good_word s (needed s) p good l).1

        in_row : InSection 4 (pool_at s) (rows s) p → fault s' p ≡ 0
        in_row at =
            let from = r.permutation.forth at.i at.row in
            ap (fault s') at.place ∙
            fault_moved facts_before at.i at.c at.row at.column ∙
            (good_word s (needed s) (row_at s (π at.i) + at.c) good (row_word_needed s (π at.i) at.c from at.column)).1

    order_words : judged s' (needed s') ≡ Sound
    unfolding judge
    order_words =
        rw order_needed
        (first_of_all (judge s') (needed s)
        (λ p l.
        let there : p < length s' = omega (arith, r.same_length, (good_word s (needed s) p good l).0) in
        rw (lt-ltb p (length s') there, no_fault p l)))

-- ---- the theorem

pub record SameOutcome (s s' : List ℕ) (room : ℕ) : Type 0 where
  pub accepted : verdict s' room ≡ Sound
  pub same_reply : reply_to s' room ≡ reply_to s room
  pub same_results : (old : List ℕ) → length old ≡ room → results_after s' old ≡ results_after s old

pub order_of_rows :
    (s s' : List ℕ) (π σ : ℕ → ℕ) (room : ℕ) → verdict s room ≡ Sound → Reordered s s' π σ → SameOutcome s s' room
unfolding reply_to
order_of_rows s s' π σ room e r =
    record {
      accepted = e';
      same_reply = rw (e, e', count, shared);
      same_results = λ old size.
          results_accepted s' old (rw size e') ∙
          rw (count, lines_same s s' (tranche_count s) shared own) (sym (results_accepted s old (rw size e)));
    }
  where
    parts : Accepted s room
    parts = accepted_means s room e

    sound : judged s (needed s) ≡ Sound
    sound = accepted_judged s room e

    count : tranche_count s' ≡ tranche_count s
    count = (order_counts s s' π σ r).tranche_count_same

    shared : terms s' ≡ terms s
    shared = order_terms s s' π σ r (facts_before s s' π σ r sound)

    own : (i : ℕ) → i < tranche_count s → tranche s' i ≡ tranche s i
    own = order_tranche s s' π σ r (facts_before s s' π σ r sound)

    e' : verdict s' room ≡ Sound
    e' =
        accepted_when s' room
        (record {
          words = record {
            good = judged_good s' (needed s') (order_words s s' π σ r sound);
            none_follows = omega (arith, r.same_length, parts.words.none_follows, order_needed s s' π σ r);
          };
          enough = omega (arith, parts.enough, count);
          none_thin = λ i l.
              let below : i < tranche_count s = omega (arith, count) in
              rw (own i below, shared) (parts.none_thin i below);
        })
