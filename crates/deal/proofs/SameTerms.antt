-- Two sheets of the same facts, IRB figures and pool sums have the same terms, and their tranches with the same months and the same other words are the same, wherever these words stand. No axioms.
use mathlib.Core.Bool.{not, ◌&&◌}
use mathlib.Core.List.{List}
use mathlib.Core.Path.{◌≡◌, ap, ◌∙◌}
use Prim.Native.Nat.{ℕ, ◌+◌, ◌<◌}
use native.Mathlib.Nat.{add-zero}
use native.Mathlib.Omega.{arith}
use lib.Dec.{ltb}
use Rattle.numbers.specs.Sum.{sum, where_counted}
use Rattle.numbers.proofs.SumLaws.{sum_same}
use Rattle.numbers.specs.First.{first_where}
use Rattle.numbers.proofs.FirstLaws.{first_same}
use Rattle.judgement.specs.DealSheet.{word, pool_kind, reporting_date, tranche_count, tranche_at, amount, class, maturity, months, held, irb_figures, layout}
use Rattle.judgement.proofs.SameLayout.{SameFacts}
use Rattle.pool.specs.PoolSums.{pool_sums}
use Rattle.weights.specs.declared.Terms.{Terms}
use Rattle.deal.specs.InferredRatings.{rated_row, is_reference, senior_reference, reference_row, infers_ratings, rating_row}
use Rattle.deal.specs.Points.{senior_amount, attachment_point, detachment_point}
use Rattle.deal.specs.Lines.{terms, tranche}
use Rattle.deal.proofs.InferredLaws.{rating_row_within}

-- ---- what the tranches share

pub same_terms :
    (s s' : List ℕ) → pool_kind s' ≡ pool_kind s → SameFacts s s' → irb_figures s' ≡ irb_figures s → pool_sums s' ≡ pool_sums s → terms s' ≡ terms s
unfolding terms layout
same_terms s s' kind facts irb sums =
    rw (kind, facts.same_resecuritisation, facts.same_stc, facts.same_diligence, facts.same_composition, irb, sums)

-- ---- a tranche

-- its months, where both sheets have the same reporting date
pub same_months :
    (s s' : List ℕ) (i : ℕ) → reporting_date s' ≡ reporting_date s → maturity s' i ≡ maturity s i → months s' i ≡ months s i
same_months s s' i date word = rw (date, word)

-- the amounts and classes of all tranches are the same
pub same_senior_amount :
    (s s' : List ℕ) (c : ℕ) → tranche_count s' ≡ tranche_count s →
    ((j : ℕ) → j < tranche_count s → amount s' j ≡ amount s j) → ((j : ℕ) → j < tranche_count s → class s' j ≡ class s j) →
    senior_amount s' c ≡ senior_amount s c
unfolding senior_amount
same_senior_amount s s' c count amounts classes =
    ap (sum (λ j. where_counted (ltb (class s' j) c) (amount s' j))) count ∙
    sum_same
    (λ j. where_counted (ltb (class s' j) c) (amount s' j))
    (λ j. where_counted (ltb (class s j) c) (amount s j))
    (tranche_count s)
    (λ j l. rw (classes j l, amounts j l))

-- the row whose ratings count, where as many tranches have the same classes and months and the same of them are rated, and both deals infer ratings or neither does
module _ (s s' : List ℕ) (i : ℕ) (count : tranche_count s' ≡ tranche_count s) (row : i < tranche_count s) where
  -- its references are the same
  pub same_reference_row :
      ((j : ℕ) → j < tranche_count s → class s' j ≡ class s j) → ((j : ℕ) → j < tranche_count s → is_reference s' i j ≡ is_reference s i j) →
      reference_row s' i ≡ reference_row s i
  unfolding reference_row
  same_reference_row classes served =
      ap (first_where (λ j. is_reference s' i j && not (senior_reference s' i j))) count ∙
      first_same
      (λ j. is_reference s i j && not (senior_reference s i j))
      (λ j. is_reference s' i j && not (senior_reference s' i j))
      (tranche_count s)
      (λ j l. rw (served j l, same_more_senior j l))
    where
      same_more_senior : (j : ℕ) → j < tranche_count s → senior_reference s' i j ≡ senior_reference s i j
      same_more_senior j l =
          rw count
          (ap (λ (k : ℕ). ltb k (tranche_count s))
          (first_same
          (λ k. is_reference s i k && ltb (class s k) (class s j))
          (λ k. is_reference s' i k && ltb (class s' k) (class s' j))
          (tranche_count s)
          (λ k m. rw (served k m, classes k m, classes j l))))

  pub same_rating_row :
      (d d' : Terms) → infers_ratings d' ≡ infers_ratings d → rated_row s' i ≡ rated_row s i → reference_row s' i ≡ reference_row s i →
      rating_row d' s' i ≡ rating_row d s i
  unfolding rating_row
  same_rating_row d d' by rated serving = rw (by, rated, serving, count)

pub same_tranche :
    (s s' : List ℕ) (i : ℕ) → tranche_count s' ≡ tranche_count s → pool_sums s' ≡ pool_sums s → i < tranche_count s →
    ((j c : ℕ) → j < tranche_count s → c < 2 → word s' (tranche_at s' j + c) ≡ word s (tranche_at s j + c)) →
    months s' i ≡ months s i → held s' i ≡ held s i →
    rating_row (terms s') s' i ≡ rating_row (terms s) s i →
    ((c : ℕ) → 3 < c → c < 7 → word s' (tranche_at s' (rating_row (terms s) s i) + c) ≡ word s (tranche_at s (rating_row (terms s) s i) + c)) →
    tranche s' i ≡ tranche s i
unfolding tranche attachment_point detachment_point
same_tranche s s' i count sums l alike maturity own row ratings =
    simp (
      sums,
      classes i l,
      same_senior_amount s s' (class s i + 1) count amounts classes,
      same_senior_amount s s' (class s i) count amounts classes,
      maturity,
      own,
      row,
      ratings 4 (omega arith) (omega arith),
      ratings 5 (omega arith) (omega arith),
      ratings 6 (omega arith) (omega arith),
    )
  where
    amounts : (j : ℕ) → j < tranche_count s → amount s' j ≡ amount s j
    amounts j row = simp add-zero at (alike j 0 row (omega arith))

    classes : (j : ℕ) → j < tranche_count s → class s' j ≡ class s j
    classes j row = alike j 1 row (omega arith)

-- the same where all words of all tranches but their maturities are alike, and the months are
pub alike_tranche :
    (s s' : List ℕ) → tranche_count s' ≡ tranche_count s → pool_sums s' ≡ pool_sums s → infers_ratings (terms s') ≡ infers_ratings (terms s) →
    ((j c : ℕ) → j < tranche_count s → (c ≡ 2 → ⊥) → c < 7 → word s' (tranche_at s' j + c) ≡ word s (tranche_at s j + c)) →
    ((j : ℕ) → j < tranche_count s → months s' j ≡ months s j) →
    (i : ℕ) → i < tranche_count s → tranche s' i ≡ tranche s i
alike_tranche s s' count sums by alike maturity i l =
    same_tranche s s' i count sums l
    (λ j c row column. alike j c row (λ e. omega arith) (omega arith))
    (maturity i l)
    (alike i 3 l (λ e. omega arith) (omega arith))
    (same_rating_row s s' i count l (terms s) (terms s') by (rated i l) (same_reference_row s s' i count l classes served))
    (λ c past column. alike (rating_row (terms s) s i) c (rating_row_within s i (terms s) l) (λ e. omega arith) column)
  where
    classes : (j : ℕ) → j < tranche_count s → class s' j ≡ class s j
    classes j row = alike j 1 row (λ e. omega arith) (omega arith)

    rated : (j : ℕ) → j < tranche_count s → rated_row s' j ≡ rated_row s j
    rated j row =
        rw (
          alike j 4 row (λ e. omega arith) (omega arith),
          alike j 5 row (λ e. omega arith) (omega arith),
          alike j 6 row (λ e. omega arith) (omega arith),
        )

    served : (j : ℕ) → j < tranche_count s → is_reference s' i j ≡ is_reference s i j
    served j row = rw (rated j row, classes i l, classes j row, maturity i l, maturity j row)
