-- Whose ratings count for a tranche. The reference that counts is that of 02's words, and since classes never fall from row to row it is the first row of all references; a tranche whose rating is
-- inferred is under SEC-ERBA and not too thin; and where none is inferred its own ratings count, as before S-8. No axioms.
use mathlib.Core.Bool.{Bool, true, false, cond, not, ◌&&◌}
use mathlib.Core.List.{List}
use mathlib.Core.Logic.{⊎_elim}
use mathlib.Core.Path.{◌≡◌, refl, sym, ap, ◌∙◌}
use Prim.Native.Nat.{ℕ, ◌-◌, ◌≤◌, ◌<◌}
use native.Mathlib.Nat.{eq-zero-or-pos, le_refl}
use native.Mathlib.Omega.{arith}
use lib.Dec.{leb, ltb, eqb}
use borrow.Author.Tests.{leb-true, ltb-true, ltb-false, le-leb, lt-leb, lt-ltb, le-ltb, not-true}
use Rattle.numbers.specs.First.{first_where, some_where}
use Rattle.numbers.proofs.FirstLaws.{first_is, first_none, first_passes, none_before, nowhere, somewhere, first_at_most_passing}
use Rattle.numbers.proofs.Tests.{true_not_false, both_true, at_cond}
use Rattle.judgement.specs.DealSheet.{tranche_count, class, months, held, first_rating, second_rating, third_rating, needed}
use Rattle.judgement.specs.Refusals.{judged}
use Rattle.judgement.specs.Verdicts.{Sound}
use Rattle.weights.specs.ApproachFloorCap.{rated, approach, thin}
use Rattle.weights.specs.declared.Terms.{Terms}
use Rattle.weights.specs.declared.Tranche.{Tranche}
use Rattle.weights.proofs.WeightLaws.{not_thin_otherwise}
use Rattle.deal.specs.Points.{attachment_point, detachment_point}
use Rattle.deal.specs.Lines.{terms, tranche}
use Rattle.deal.specs.InferredRatings.{rated_row, is_reference, senior_reference, reference_row, infers_ratings, infers, rating_row, Reference, CountingReference, RatingsCount, by_own_rating, by_deal, without_reference, by_reference}
use Rattle.deal.proofs.ClassPointsLaw.{classes_sorted}

-- ---- a test that fails after another

pub and_false : (b : Bool) → b && false ≡ false
and_false true = refl
and_false false = refl

-- ---- "It takes that row's ratings, with its own class, maturity and thickness."

pub record KeepsItsOwn (s : List ℕ) (i : ℕ) : Type 0 where
  pub own_attachment : (tranche s i).attachment ≡ attachment_point s i
  pub own_detachment : (tranche s i).detachment ≡ detachment_point s i
  pub own_class : (tranche s i).senior ≡ eqb (class s i) 1
  pub own_months : (tranche s i).months ≡ months s i
  pub own_held : (tranche s i).held ≡ held s i

pub keeps_its_own : (s : List ℕ) (i : ℕ) → KeepsItsOwn s i
unfolding tranche
keeps_its_own s i = record { own_attachment = refl; own_detachment = refl; own_class = refl; own_months = refl; own_held = refl }

pub record TakesRatings (s : List ℕ) (i r : ℕ) : Type 0 where
  pub first_taken : (tranche s i).ratings.first ≡ first_rating s r
  pub second_taken : (tranche s i).ratings.second ≡ second_rating s r
  pub third_taken : (tranche s i).ratings.third ≡ third_rating s r

pub takes_ratings : (s : List ℕ) (i : ℕ) → TakesRatings s i (rating_row (terms s) s i)
unfolding tranche
takes_ratings s i = record { first_taken = refl; second_taken = refl; third_taken = refl }

-- ---- the deals in which no rating is inferred

pub none_without_diligence : (d : Terms) → d.diligence ≡ false → infers_ratings d ≡ false
none_without_diligence d e = rw e

pub none_in_resecuritisation : (d : Terms) → d.resecuritisation ≡ true → infers_ratings d ≡ false
none_in_resecuritisation d e = simp (e, and_false)

pub none_under_irba : (d : Terms) → d.irba ≡ true → infers_ratings d ≡ false
none_under_irba d e = simp (e, and_false)

pub inferring : (d : Terms) → d.diligence ≡ true → d.resecuritisation ≡ false → d.irba ≡ false → infers_ratings d ≡ true
inferring d held ordinary by = rw (held, ordinary, by)

module _ (s : List ℕ) (i : ℕ) where
  -- ---- the test of a row is 02's words

  -- an unrated row is no reference, and neither is one of a senior class or with a shorter maturity
  pub unrated_no_reference : (j : ℕ) → rated_row s j ≡ false → is_reference s i j ≡ false
  unrated_no_reference j e = rw e

  pub senior_no_reference : (j : ℕ) → class s j < class s i → is_reference s i j ≡ false
  senior_no_reference j senior = simp (lt-leb (class s i) (class s j) senior, and_false)

  pub shorter_no_reference : (j : ℕ) → months s j < months s i → is_reference s i j ≡ false
  shorter_no_reference j shorter = simp (lt-leb (months s i) (months s j) shorter, and_false)

  pub reference_means : (j : ℕ) → j < tranche_count s → is_reference s i j ≡ true → Reference s i j
  reference_means j l e =
      let terms = both_true (rated_row s j && leb (class s i) (class s j)) (leb (months s i) (months s j)) e in
      let rated = both_true (rated_row s j) (leb (class s i) (class s j)) terms.0 in
      record {
        among = l;
        is_rated = rated.0;
        own_or_junior = leb-true (class s i) (class s j) rated.1;
        as_long = leb-true (months s i) (months s j) terms.1;
      }

  pub reference_is : (j : ℕ) → Reference s i j → is_reference s i j ≡ true
  reference_is j h = simp (h.is_rated, le-leb (class s i) (class s j) h.own_or_junior, le-leb (months s i) (months s j) h.as_long)

  -- ---- the reference that counts is that of 02's words

  -- a reference of a class senior to that of j
  abbrev senior_one : ℕ → ℕ → Bool
  senior_one j k = is_reference s i k && ltb (class s k) (class s j)

  -- where no reference is of a class senior to that of j, none is found, and where one is, it is found
  none_more_senior : (j : ℕ) → ((k : ℕ) → Reference s i k → class s j ≤ class s k) → senior_reference s i j ≡ false
  none_more_senior j most =
      nowhere (senior_one j) (tranche_count s) (λ k l. by_test k l (senior_one j k) refl)
    where
      by_test : (k : ℕ) → k < tranche_count s → (b : Bool) → senior_one j k ≡ b → senior_one j k ≡ false
      by_test k l true e =
          let both = both_true (is_reference s i k) (ltb (class s k) (class s j)) e in
          absurd (omega (arith, most k (reference_means k l both.0), ltb-true (class s k) (class s j) both.1))
      by_test k l false e = e

  one_more_senior : (j k : ℕ) → Reference s i k → class s k < class s j → senior_reference s i j ≡ true
  one_more_senior j k h senior =
      somewhere (senior_one j) (tranche_count s) k h.among (simp (reference_is k h, lt-ltb (class s k) (class s j) senior))

  -- the test by which the row is found
  abbrev counting : ℕ → Bool
  counting j = is_reference s i j && not (senior_reference s i j)

  pub counting_row_is : (j : ℕ) → CountingReference s i j → reference_row s i ≡ j
  unfolding reference_row
  counting_row_is j h =
      first_is counting (tranche_count s) j h.is_reference_lem.among
      (simp (reference_is j h.is_reference_lem, none_more_senior j h.most_senior))
      (λ k l. by_test k l (is_reference s i k) refl)
    where
      -- an earlier reference is of a junior class
      not_first : (k : ℕ) → k < j → Reference s i k → class s j < class s k
      not_first k l served =
          ⊎_elim
          (λ e.
          let same : class s k ≡ class s j = omega (arith, h.most_senior k served) in
          absurd (omega (arith, h.first_row k served same)))
          (λ junior. omega arith)
          (eq-zero-or-pos (class s k - class s j))

      by_test : (k : ℕ) → k < j → (b : Bool) → is_reference s i k ≡ b → counting k ≡ false
      by_test k l true e =
          let served = reference_means k (omega (arith, h.is_reference_lem.among)) e in
          simp (e, one_more_senior k j h.is_reference_lem (not_first k l served))
      by_test k l false e = rw e

  pub reference_row_counts : reference_row s i < tranche_count s → CountingReference s i (reference_row s i)
  unfolding reference_row
  reference_row_counts found = record {
    is_reference_lem = reference_means row found passes.0;
    most_senior = λ k h.
        ⊎_elim
        (λ e. omega arith)
        (λ senior. absurd (true_not_false (sym (one_more_senior row k h (omega arith)) ∙ not-true (senior_reference s i row) passes.1)))
        (eq-zero-or-pos (class s row - class s k));
    first_row = λ k h same.
        ⊎_elim
        (λ e. omega arith)
        (λ before. absurd (true_not_false (sym (also_counts k h same) ∙ none_before counting (tranche_count s) k (omega arith))))
        (eq-zero-or-pos (row - k));
  }
    where
      row : ℕ
      row = first_where counting (tranche_count s)

      passes : (is_reference s i row ≡ true) × (not (senior_reference s i row) ≡ true)
      passes = both_true (is_reference s i row) (not (senior_reference s i row)) (first_passes counting (tranche_count s) found)

      also_counts : (k : ℕ) → Reference s i k → class s k ≡ class s row → counting k ≡ true
      also_counts k h same =
          let alike : senior_reference s i k ≡ senior_reference s i row =
          ap (λ (c : ℕ). some_where (λ m. is_reference s i m && ltb (class s m) c) (tranche_count s)) same in
          simp (reference_is k h, alike, passes.1)

  -- ---- in the rows' order: classes never fall from row to row, so it is the first row of all references

  module _ (good : judged s (needed s) ≡ Sound) where
    pub first_reference : (j : ℕ) → j < tranche_count s → is_reference s i j ≡ true → ((k : ℕ) → k < j → is_reference s i k ≡ false) → reference_row s i ≡ j
    first_reference j l e before =
        counting_row_is j
        (record {
          is_reference_lem = reference_means j l e;
          most_senior = λ k h. classes_sorted s good j k (not_before k h) h.among;
          first_row = λ k h same. not_before k h;
        })
      where
        not_before : (k : ℕ) → Reference s i k → j ≤ k
        not_before k h =
            ⊎_elim
            (λ e. omega arith)
            (λ earlier. absurd (true_not_false (sym (reference_is k h) ∙ before k (omega arith))))
            (eq-zero-or-pos (j - k))

    -- so one is found where there is one,
    pub found_where_one_is : (j : ℕ) → Reference s i j → reference_row s i < tranche_count s
    found_where_one_is j h =
        let row = first_where (is_reference s i) (tranche_count s) in
        let earliest : row ≤ j = first_at_most_passing (is_reference s i) (tranche_count s) j (reference_is j h) in
        let among : row < tranche_count s = omega (arith, h.among) in
        omega (
          arith,
          first_reference row among (first_passes (is_reference s i) (tranche_count s) among) (none_before (is_reference s i) (tranche_count s)),
        )

  -- and none where there is none
  pub no_reference : ((k : ℕ) → k < tranche_count s → is_reference s i k ≡ false) → reference_row s i ≡ tranche_count s
  unfolding reference_row
  no_reference none = first_none counting (tranche_count s) (λ k l. rw (none k l))

  -- ---- the row whose ratings count

  module _ (d : Terms) where
    pub kept_where_rated : rated_row s i ≡ true → rating_row d s i ≡ i
    unfolding rating_row
    kept_where_rated e = rw e

    pub kept_without_inference : infers_ratings d ≡ false → rating_row d s i ≡ i
    unfolding rating_row
    kept_without_inference e =
        let none : infers d s i ≡ false = simp (e, and_false) in
        rw none

    pub kept_without_reference : tranche_count s ≤ reference_row s i → rating_row d s i ≡ i
    unfolding rating_row
    kept_without_reference none =
        let none : infers d s i ≡ false = simp (le-ltb (reference_row s i) (tranche_count s) none, and_false) in
        rw none

    pub inferred_where_found :
        infers_ratings d ≡ true → rated_row s i ≡ false → reference_row s i < tranche_count s → rating_row d s i ≡ reference_row s i
    unfolding rating_row
    inferred_where_found by unrated found = simp (by, unrated, lt-ltb (reference_row s i) (tranche_count s) found)

    -- either it is its own row, or one that counts by 02's words
    pub own_or_counting : (P : ℕ → Type 0) → P i → (infers d s i ≡ true → CountingReference s i (reference_row s i) → P (reference_row s i)) → P (rating_row d s i)
    unfolding rating_row
    own_or_counting P own counts =
        at_cond P (infers d s i) (reference_row s i) i
        (λ e. counts e (reference_row_counts (ltb-true (reference_row s i) (tranche_count s) (both_true (not (rated_row s i) && infers_ratings d) (ltb (reference_row s i) (tranche_count s)) e).1)))
        (λ _. own)

    pub rating_row_within : i < tranche_count s → rating_row d s i < tranche_count s
    rating_row_within l = own_or_counting (λ r. r < tranche_count s) l (λ _ counts. counts.is_reference_lem.among)

    pub rating_row_junior : class s i ≤ class s (rating_row d s i)
    rating_row_junior = own_or_counting (λ r. class s i ≤ class s r) (le_refl _) (λ _ counts. counts.is_reference_lem.own_or_junior)

-- ---- the approach of a tranche that infers a rating, and how a line shows it

-- it is rated by the ratings that count where their row is
ratings_of_row : (s : List ℕ) (i : ℕ) → rated (tranche s i) ≡ rated_row s (rating_row (terms s) s i)
ratings_of_row s i = let taken = takes_ratings s i in rw (taken.first_taken, taken.second_taken, taken.third_taken)

-- "An unrated tranche that finds one" is under SEC-ERBA,
pub inferred_approach : (s : List ℕ) (i : ℕ) → infers (terms s) s i ≡ true → approach (tranche s i) (terms s) ≡ 1
unfolding rating_row
inferred_approach s i e =
    let found = both_true (not (rated_row s i) && infers_ratings (terms s)) (ltb (reference_row s i) (tranche_count s)) e in
    let by = (both_true (not (rated_row s i)) (infers_ratings (terms s)) found.0).1 in
    let ordinary = both_true ((terms s).diligence && not (terms s).resecuritisation) (not (terms s).irba) by in
    let held = both_true (terms s).diligence (not (terms s).resecuritisation) ordinary.0 in
    let row : rating_row (terms s) s i ≡ reference_row s i = rw e in
    let counts = reference_row_counts s i (ltb-true (reference_row s i) (tranche_count s) found.1) in
    let is : rated (tranche s i) ≡ true = ratings_of_row s i ∙ ap (rated_row s) row ∙ counts.is_reference_lem.is_rated in
    rw (held.0, not-true (terms s).resecuritisation held.1, not-true (terms s).irba ordinary.1, is)

-- and "no longer meets 13"
pub inferred_not_thin : (s : List ℕ) (i : ℕ) → infers (terms s) s i ≡ true → thin (tranche s i) (terms s) ≡ false
inferred_not_thin s i e = not_thin_otherwise (tranche s i) (terms s) (rw (inferred_approach s i e))

-- in plain words: an unrated tranche of a deal that infers ratings, with a reference
pub reference_not_thin :
    (s : List ℕ) (i j : ℕ) → judged s (needed s) ≡ Sound → infers_ratings (terms s) ≡ true → rated_row s i ≡ false → Reference s i j →
    thin (tranche s i) (terms s) ≡ false
reference_not_thin s i j good by unrated h =
    inferred_not_thin s i (simp (unrated, by, lt-ltb (reference_row s i) (tranche_count s) (found_where_one_is s i good j h)))

-- a tranche under SEC-ERBA has a rating that counts
by_rating : (t : Tranche) (d : Terms) → approach t d ≡ 1 → rated t ≡ true
by_rating t d e = by_test (rated t) refl
  where
    not_one : (b : Bool) (m n : ℕ) → (m ≡ 1 → ⊥) → (n ≡ 1 → ⊥) → cond b m n ≡ 1 → ⊥
    not_one true m n p q = p
    not_one false m n p q = q

    by_test : (b : Bool) → rated t ≡ b → rated t ≡ true
    by_test true is = is
    by_test false is =
        absurd
        (not_one (not d.diligence) _ _ (λ z. omega arith)
        (not_one d.resecuritisation _ _ (λ z. omega arith)
        (not_one d.irba _ _ (λ z. omega arith)
        (not_one (not d.known) _ _ (λ z. omega arith) (λ z. omega arith))))
        (rw is at e))

-- so a line of approach 1 on a tranche with no rating of its own is by an inferred one
pub inferred_shown : (s : List ℕ) (i : ℕ) → rated_row s i ≡ false → approach (tranche s i) (terms s) ≡ 1 → infers (terms s) s i ≡ true
unfolding rating_row
inferred_shown s i unrated e = by_test (infers (terms s) s i) refl
  where
    by_test : (b : Bool) → infers (terms s) s i ≡ b → infers (terms s) s i ≡ true
    by_test true is = is
    by_test false is =
        let own : rating_row (terms s) s i ≡ i = rw is in
        absurd
        (true_not_false
        (sym (by_rating (tranche s i) (terms s) e) ∙ ratings_of_row s i ∙ ap (rated_row s) own ∙ unrated))

-- ---- the row whose ratings count, in plain relations, of a sheet whose words are good

module _ (d : Terms) (s : List ℕ) (i : ℕ) (good : judged s (needed s) ≡ Sound) where
  pub ratings_count : RatingsCount d s i (rating_row d s i)
  ratings_count = by_tests (rated_row s i) refl (infers_ratings d) refl
    where
      by_found : (b : Bool) → ltb (reference_row s i) (tranche_count s) ≡ b → rated_row s i ≡ false → infers_ratings d ≡ true → RatingsCount d s i (rating_row d s i)
      by_found true e unrated by =
          let found = ltb-true (reference_row s i) (tranche_count s) e in
          by_reference unrated by (rw (inferred_where_found s i d by unrated found) (reference_row_counts s i found))
      by_found false e unrated by =
          let none = ltb-false (reference_row s i) (tranche_count s) e in
          without_reference
          (λ k h. absurd (omega (arith, found_where_one_is s i good k h)))
          (kept_without_reference s i d none)

      by_tests : (own : Bool) → rated_row s i ≡ own → (inferring : Bool) → infers_ratings d ≡ inferring → RatingsCount d s i (rating_row d s i)
      by_tests true is inferring by = by_own_rating is (kept_where_rated s i d is)
      by_tests false is false by = by_deal by (kept_without_inference s i d by)
      by_tests false is true by = by_found (ltb (reference_row s i) (tranche_count s)) refl is by

  pub ratings_count_settled : (r : ℕ) → RatingsCount d s i r → rating_row d s i ≡ r
  ratings_count_settled r (by_own_rating is same) = kept_where_rated s i d is ∙ sym same
  ratings_count_settled r (by_deal by same) = kept_without_inference s i d by ∙ sym same
  ratings_count_settled r (without_reference none same) =
      kept_without_reference s i d (no_row (ltb (reference_row s i) (tranche_count s)) refl) ∙ sym same
    where
      no_row : (b : Bool) → ltb (reference_row s i) (tranche_count s) ≡ b → tranche_count s ≤ reference_row s i
      no_row true e =
          let found = ltb-true (reference_row s i) (tranche_count s) e in
          absurd (none (reference_row s i) (reference_row_counts s i found).is_reference_lem)
      no_row false e = ltb-false (reference_row s i) (tranche_count s) e
  ratings_count_settled r (by_reference unrated by counts) =
      let row = counting_row_is s i r counts in
      inferred_where_found s i d by unrated (omega (arith, row, counts.is_reference_lem.among)) ∙ row

-- ---- a tranche that infers none is weighed as before S-8, by its own ratings

pub own_ratings_as_before : (s : List ℕ) (i : ℕ) → infers (terms s) s i ≡ false → TakesRatings s i i
unfolding rating_row
own_ratings_as_before s i none =
    let own : rating_row (terms s) s i ≡ i = rw none in
    rw own at (takes_ratings s i)
