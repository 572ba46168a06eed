-- 02, S-8, "Inferred ratings": "CRE42 obliges a bank to infer a rating where it can." (CRE42.9 and CRE42.10, whose reference securitisation exposure is the rated tranche; d374 paragraphs 72 and 73): whose
-- ratings count for a tranche. By steps first, then in plain relations; that both say the same of every sheet whose words are good is proved in proofs/InferredLaws.antt.
use Rattle.std.specs.Prelude.{Bool, true, false, cond, not, ◌&&◌, List, ◌≡◌, ℕ, ◌≤◌, ◌<◌, leb, ltb}
use Rattle.numbers.specs.First.{first_where, some_where}
use Rattle.rating_codes.specs.RatingCodes.{any_present}
use Rattle.rating_codes.specs.declared.Ratings.{Ratings}
use Rattle.judgement.specs.DealSheet.{tranche_count, class, months, first_rating, second_rating, third_rating}
use Rattle.weights.specs.declared.Terms.{Terms}

-- ---- by steps

-- "three ratings": the rating words of a tranche's own row
abbrev pub own_ratings : List ℕ → ℕ → Ratings
own_ratings s i = record { first = first_rating s i; second = second_rating s i; third = third_rating s i }

-- a tranche with a rating of its own. A rating is inferred from such a tranche alone, not from one whose rating is itself inferred: there are no chains
abbrev pub rated_row : List ℕ → ℕ → Bool
rated_row s j = any_present (first_rating s j) (second_rating s j) (third_rating s j)

-- "rated tranches of its own or a junior class with equal or longer maturity in months": whether tranche j is one for tranche i
abbrev pub is_reference : List ℕ → ℕ → ℕ → Bool
is_reference s i j = rated_row s j && leb (class s i) (class s j) && leb (months s i) (months s j)

-- "Of these the most senior class counts": whether one of them is of a class senior to that of tranche j
abbrev pub senior_reference : List ℕ → ℕ → ℕ → Bool
senior_reference s i j = some_where (λ k. is_reference s i k && ltb (class s k) (class s j)) (tranche_count s)

-- "and in it the first row."; the number of tranches where there is none
unfoldable pub reference_row : List ℕ → ℕ → ℕ
reference_row s i = first_where (λ j. is_reference s i j && not (senior_reference s i j)) (tranche_count s)

-- "an ordinary deal without SEC-IRBA"; without due diligence no rating counts, and none is inferred
abbrev pub infers_ratings : Terms → Bool
infers_ratings d = d.diligence && not d.resecuritisation && not d.irba

-- "An unrated tranche of an ordinary deal without SEC-IRBA looks for rated tranches": whether tranche i does, and finds one
abbrev pub infers : Terms → List ℕ → ℕ → Bool
infers d s i = not (rated_row s i) && infers_ratings d && ltb (reference_row s i) (tranche_count s)

-- "It takes that row's ratings": the row whose ratings count for tranche i, its own where it infers none
unfoldable pub rating_row : Terms → List ℕ → ℕ → ℕ
rating_row d s i = cond (infers d s i) (reference_row s i) i

-- ---- in plain relations

-- "rated tranches of its own or a junior class with equal or longer maturity in months"
pub record Reference (s : List ℕ) (i j : ℕ) : Type 0 where
  pub among : j < tranche_count s
  pub is_rated : rated_row s j ≡ true
  pub own_or_junior : class s i ≤ class s j
  pub as_long : months s i ≤ months s j

-- "Of these the most senior class counts, and in it the first row."
pub record CountingReference (s : List ℕ) (i j : ℕ) : Type 0 where
  pub is_reference_lem : Reference s i j
  pub most_senior : (k : ℕ) → Reference s i k → class s j ≤ class s k
  pub first_row : (k : ℕ) → Reference s i k → class s k ≡ class s j → j ≤ k

-- why the ratings of row r count for tranche i: it is rated itself; the deal infers none; there is no reference; or it takes those of the one that counts
pub data RatingsCount (d : Terms) (s : List ℕ) (i r : ℕ) : Type 0 where
  by_own_rating : rated_row s i ≡ true → r ≡ i → RatingsCount d s i r
  by_deal : infers_ratings d ≡ false → r ≡ i → RatingsCount d s i r
  without_reference : ((k : ℕ) → Reference s i k → ⊥) → r ≡ i → RatingsCount d s i r
  by_reference : rated_row s i ≡ false → infers_ratings d ≡ true → CountingReference s i r → RatingsCount d s i r
