-- Which ratings a tranche's line depends on: two accepted sheets that are the same but for ratings of tranches of a senior class give it the same words; and where it is rated or its deal infers no
-- rating, so do two that are the same but for other tranches' ratings. No axioms.
use mathlib.Core.List.{List}
use mathlib.Core.Logic.{⊎_elim}
use mathlib.Core.Path.{◌≡◌, refl, sym, ap, ◌∙◌, subst}
use Prim.Native.Nat.{ℕ, ◌+◌, ◌-◌, ◌≤◌, ◌<◌}
use native.Mathlib.Nat.{eq-zero-or-pos, le_refl}
use native.Mathlib.Omega.{arith}
use Rattle.judgement.specs.DealSheet.{word, pool_kind, reporting_date, unit_at, in_hundredths, pool_at, row_at, tranches_at, tranche_count, tranche_at, class, months, irb_place, needed}
use Rattle.pool.specs.PoolSums.{pool_sums}
use Rattle.pool.proofs.SameSums.{same_sums_in_order}
use Rattle.weights.specs.declared.Terms.{Terms}
use Rattle.deal.specs.InferredRatings.{rated_row, is_reference, infers_ratings, rating_row}
use Rattle.deal.specs.Lines.{terms, tranche, line_words}
use Rattle.judgement.specs.Refusals.{judged}
use Rattle.deal.specs.Refusals.{verdict}
use Rattle.deal.specs.OtherRatings.{SameButRatings, SeniorTo, OtherThan, OwnRatingsOnly, SameLine, is_rated, in_resecuritisation, under_irba, without_diligence}
use Rattle.judgement.specs.Verdicts.{Sound}
use Rattle.judgement.proofs.NeededLaws.{pool_at_least, tranches_at_past_rows, irb_at_past_tranches}
use Rattle.judgement.proofs.SameLayout.{SameCounts, same_counts, same_irb_at, SameFacts, same_facts, same_unit, same_irb_figures, same_reporting_date}
use Rattle.judgement.proofs.SheetLimits.{facts_counted, pool_at_within}
use Rattle.deal.proofs.InferredLaws.{none_without_diligence, none_in_resecuritisation, none_under_irba, senior_no_reference, kept_where_rated, kept_without_inference, rating_row_junior}
use Rattle.deal.proofs.JudgedLaws.{accepted_judged}
use Rattle.deal.proofs.LineLaws.{results_line}
use Rattle.deal.proofs.SameTerms.{same_terms, same_months, same_tranche, same_reference_row, same_rating_row}

-- ---- two sheets that are the same but for rating words of some tranches: no rating stands before the tranches, or in the first four columns of a tranche

module _ (s s' : List ℕ) (some : ℕ → Type 0) (same : SameButRatings s s' some) where
  same_head : (p : ℕ) → p ≤ tranches_at s → word s' p ≡ word s p
  same_head p h = same.same_word p (λ r. omega arith)

  ratings_counts : SameCounts s s'
  ratings_counts =
      same_counts s s' (same_head 0 (omega arith)) (same_head (pool_at s) (omega (arith, tranches_at_past_rows s))) (same_head (tranches_at s) (le_refl _))

  pub ratings_count : tranche_count s' ≡ tranche_count s
  ratings_count = ratings_counts.tranche_count_same

  -- what is no rating is the same of every tranche, and all is of the others
  same_plain : (j c : ℕ) → c < 4 → word s' (tranche_at s' j + c) ≡ word s (tranche_at s j + c)
  same_plain j c h = rw ratings_counts.tranches_at_same (same.same_word (tranche_at s j + c) (λ r. omega arith))

  same_rating : (j c : ℕ) → (some j → ⊥) → c < 7 → word s' (tranche_at s' j + c) ≡ word s (tranche_at s j + c)
  same_rating j c other h =
      rw ratings_counts.tranches_at_same
      (same.same_word (tranche_at s j + c)
      (λ r.
      let row : r.row ≡ j = omega arith in
      other (subst some row r.one_of)))

  same_class : (j : ℕ) → class s' j ≡ class s j
  same_class j = same_plain j 1 (omega arith)

  same_rated : (j : ℕ) → (some j → ⊥) → rated_row s' j ≡ rated_row s j
  same_rated j other = rw (same_rating j 4 other (omega arith), same_rating j 5 other (omega arith), same_rating j 6 other (omega arith))

  ratings_unit : in_hundredths s' ≡ in_hundredths s
  ratings_unit = same_unit s s' (same_head 0 (omega arith)) (λ before. same_head unit_at (omega (arith, tranches_at_past_rows s)))

  ratings_sums : pool_sums s' ≡ pool_sums s
  ratings_sums =
      same_sums_in_order s s' ratings_counts.row_count ratings_unit
      (λ j c row column. rw ratings_counts.pool_at_same (same_head (row_at s j + c) (omega (arith, tranches_at_past_rows s))))

  ratings_kind : pool_kind s' ≡ pool_kind s
  ratings_kind = same_head 1 (omega (arith, tranches_at_past_rows s, pool_at_least s))

  -- none stands in the IRB section
  same_irb_word : (c : ℕ) → c < 6 → word s' (irb_place s' c) ≡ word s (irb_place s c)
  same_irb_word c column = rw (same_irb_at s s' ratings_counts) (same.same_word (irb_place s c) (λ r. omega (arith, irb_at_past_tranches s)))

  module _ (good : judged s (needed s) ≡ Sound) where
    ratings_facts : SameFacts s s'
    ratings_facts =
        same_facts s s' (λ p other h before. same_head p (omega (arith, tranches_at_past_rows s))) (pool_at_within s (facts_counted s good)).0

    ratings_date : reporting_date s' ≡ reporting_date s
    ratings_date =
        same_reporting_date s s' (same_head 0 (omega arith)) (λ before. same_head 6 (omega (arith, tranches_at_past_rows s)))

    pub ratings_terms : terms s' ≡ terms s
    ratings_terms = same_terms s s' ratings_kind ratings_facts (same_irb_figures s s' ratings_kind same_irb_word) ratings_sums

    ratings_months : (j : ℕ) → months s' j ≡ months s j
    ratings_months j = same_months s s' j ratings_date (same_plain j 2 (omega arith))

    -- a tranche whose ratings come from the same row of both sheets, which is none of those tranches, is the same
    pub ratings_tranche :
        (i : ℕ) → i < tranche_count s → rating_row (terms s') s' i ≡ rating_row (terms s) s i → (some (rating_row (terms s) s i) → ⊥) →
        tranche s' i ≡ tranche s i
    ratings_tranche i l row other =
        same_tranche s s' i ratings_count ratings_sums l
        (λ j c among column. same_plain j c (omega arith))
        (ratings_months i)
        (same_plain i 3 (omega arith))
        row
        (λ c past column. same_rating (rating_row (terms s) s i) c other column)

-- ---- ratings of a senior class: a tranche's references are of its own or a junior class, so they are the same

module _ (s s' : List ℕ) (i : ℕ) (same : SameButRatings s s' (SeniorTo s i)) (good : judged s (needed s) ≡ Sound) (l : i < tranche_count s) where
  same_references : (j : ℕ) → is_reference s' i j ≡ is_reference s i j
  same_references j =
      ⊎_elim
      (λ e.
      rw (
        same_rated s s' (SeniorTo s i) same j (λ senior. omega arith),
        same_class s s' (SeniorTo s i) same i,
        same_class s s' (SeniorTo s i) same j,
        ratings_months s s' (SeniorTo s i) same good i,
        ratings_months s s' (SeniorTo s i) same good j,
      ))
      (λ pos.
      let senior : class s j < class s i = omega arith in
      let senior' : class s' j < class s' i = omega (arith, same_class s s' (SeniorTo s i) same i, same_class s s' (SeniorTo s i) same j) in
      senior_no_reference s' i j senior' ∙ sym (senior_no_reference s i j senior))
      (eq-zero-or-pos (class s i - class s j))

  pub tranche_apart_from_senior_ratings : tranche s' i ≡ tranche s i
  tranche_apart_from_senior_ratings =
      ratings_tranche s s' (SeniorTo s i) same good i l
      (same_rating_row s s' i (ratings_count s s' (SeniorTo s i) same) l (terms s) (terms s')
      (ap infers_ratings (ratings_terms s s' (SeniorTo s i) same good))
      (same_rated s s' (SeniorTo s i) same i (λ senior. omega arith))
      (same_reference_row s s' i (ratings_count s s' (SeniorTo s i) same) l
      (λ j among. same_class s s' (SeniorTo s i) same j)
      (λ j among. same_references j)))
      (λ senior. omega (arith, rating_row_junior s i (terms s)))

-- ---- other tranches' ratings, where the tranche is rated or its deal infers no rating: its own ratings count in both sheets

own_row_counts : (s : List ℕ) (i : ℕ) → OwnRatingsOnly s i → rating_row (terms s) s i ≡ i
own_row_counts s i (is_rated e) = kept_where_rated s i (terms s) e
own_row_counts s i (in_resecuritisation e) = kept_without_inference s i (terms s) (none_in_resecuritisation (terms s) e)
own_row_counts s i (under_irba e) = kept_without_inference s i (terms s) (none_under_irba (terms s) e)
own_row_counts s i (without_diligence e) = kept_without_inference s i (terms s) (none_without_diligence (terms s) e)

module _ (s s' : List ℕ) (i : ℕ) (same : SameButRatings s s' (OtherThan i)) (good : judged s (needed s) ≡ Sound) (l : i < tranche_count s) where
  -- the reason holds of both sheets
  same_reason : OwnRatingsOnly s i → OwnRatingsOnly s' i
  same_reason (is_rated e) = is_rated (same_rated s s' (OtherThan i) same i (λ other. other refl) ∙ e)
  same_reason (in_resecuritisation e) = in_resecuritisation (ap (λ (d : Terms). d.resecuritisation) (ratings_terms s s' (OtherThan i) same good) ∙ e)
  same_reason (under_irba e) = under_irba (ap (λ (d : Terms). d.irba) (ratings_terms s s' (OtherThan i) same good) ∙ e)
  same_reason (without_diligence e) = without_diligence (ap (λ (d : Terms). d.diligence) (ratings_terms s s' (OtherThan i) same good) ∙ e)

  pub tranche_apart_from_other_ratings : OwnRatingsOnly s i → tranche s' i ≡ tranche s i
  tranche_apart_from_other_ratings none =
      let own = own_row_counts s i none in
      ratings_tranche s s' (OtherThan i) same good i l
      (own_row_counts s' i (same_reason none) ∙ sym own)
      (λ other. other own)

-- ---- the theorem

-- two sheets with the same terms and the same tranche
same_line_of :
    (s s' : List ℕ) (i room : ℕ) → verdict s room ≡ Sound → verdict s' room ≡ Sound → i < tranche_count s →
    tranche_count s' ≡ tranche_count s → terms s' ≡ terms s → tranche s' i ≡ tranche s i → SameLine s s' i room
same_line_of s s' i room e e' l count shared own =
    record {
      same_count = count;
      same_terms = shared;
      same_line = line;
      same_results = λ old size c column.
          results_line s' old i c (rw size e') (omega (arith, count)) column ∙
          rw line (sym (results_line s old i c (rw size e) l column));
    }
  where
    line : line_words (tranche s' i) (terms s') ≡ line_words (tranche s i) (terms s)
    line = rw (own, shared)

-- "So a rating may now change lines of its own or a senior class, and no junior one."
pub line_apart_from_senior_ratings :
    (s s' : List ℕ) (i room : ℕ) → verdict s room ≡ Sound → verdict s' room ≡ Sound → SameButRatings s s' (SeniorTo s i) → i < tranche_count s →
    SameLine s s' i room
line_apart_from_senior_ratings s s' i room e e' same l =
    let good = accepted_judged s room e in
    same_line_of s s' i room e e' l (ratings_count s s' (SeniorTo s i) same) (ratings_terms s s' (SeniorTo s i) same good)
    (tranche_apart_from_senior_ratings s s' i same good l)

-- where the tranche is rated, or its deal infers no rating, no other tranche's ratings matter
pub line_apart_from_other_ratings :
    (s s' : List ℕ) (i room : ℕ) → verdict s room ≡ Sound → verdict s' room ≡ Sound → SameButRatings s s' (OtherThan i) → OwnRatingsOnly s i →
    i < tranche_count s → SameLine s s' i room
line_apart_from_other_ratings s s' i room e e' same own l =
    let good = accepted_judged s room e in
    same_line_of s s' i room e e' l (ratings_count s s' (OtherThan i) same) (ratings_terms s s' (OtherThan i) same good)
    (tranche_apart_from_other_ratings s s' i same good l own)
