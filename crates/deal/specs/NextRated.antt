-- What the tables of rated rows and of the rows whose ratings are taken are, which the functions of src/inferred.rt need and a PreparedDeal holds. No reader has to trust this file: `next_rated` and `take_rows` (src/inferred.rt)
-- promise it of the tables that they fill for every sheet whose words are good.
use Rattle.std.specs.Prelude.{Bool, true, false, cond, not, ◌&&◌, List, ◌≡◌, ℕ, ◌+◌, ◌≤◌, ◌<◌, ltb, length, get_or}
use Rattle.judgement.specs.DealSheet.{tranche_count}
use Rattle.weights.specs.declared.Terms.{Terms}
use Rattle.deal.specs.InferredRatings.{rated_row, reference_row, infers_ratings}

-- r is the first rated row from row j on, and the number of tranches where there is none
pub record FirstRatedFrom (s : List ℕ) (j r : ℕ) : Type 0 where
  pub at_least : j ≤ r
  pub at_most : r ≤ tranche_count s
  pub is_rated : r < tranche_count s → rated_row s r ≡ true
  pub none_between : (k : ℕ) → j ≤ k → k < r → rated_row s k ≡ false

-- at each row from a row on, up to the number of tranches, stands the first rated row from it on
pub record NextRated (s next : List ℕ) (from : ℕ) : Type 0 where
  pub size : length next ≡ 33
  pub at_row : (j : ℕ) → from ≤ j → j ≤ tranche_count s → FirstRatedFrom s j (get_or next j 0)

-- one more than the row whose ratings tranche i takes, where the deal infers ratings or does not, and 0 where it infers none
abbrev pub taken_row : Bool → List ℕ → ℕ → ℕ
taken_row inferring s i = cond (not (rated_row s i) && inferring && ltb (reference_row s i) (tranche_count s)) (reference_row s i + 1) 0

-- at each tranche of a sheet stands that number
pub record TakenRows (d : Terms) (s taken : List ℕ) : Type 0 where
  pub at_row : (i : ℕ) → i < tranche_count s → get_or taken i 0 ≡ taken_row (infers_ratings d) s i
