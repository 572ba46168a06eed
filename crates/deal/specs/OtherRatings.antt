-- 02, S-8, "Inferred ratings": "So a rating may now change lines of its own or a senior class, and no junior one." It takes the place of 01's "A tranche's line depends on no other tranche's
-- ratings, both sheets being accepted.", which stays true of a tranche that is rated and of deals that infer no rating. What follows says which ratings two sheets differ in and what it is that they
-- give a tranche the same line; that they do is proved in proofs/Independence.antt.
use Rattle.std.specs.Prelude.{true, false, List, ◌≡◌, ℕ, ◌+◌, ◌*◌, ◌≤◌, ◌<◌, length, get_or}
use Rattle.limits.specs.SheetSize.{tranche_size, line_size}
use Rattle.judgement.specs.DealSheet.{word, tranche_count, tranche_at, class}
use Rattle.deal.specs.InferredRatings.{rated_row}
use Rattle.deal.specs.Lines.{terms, tranche, line_words}
use Rattle.deal.specs.Results.{results_after}

-- at place p stands a rating word of one of some tranches
pub record RatingOf (s : List ℕ) (some : ℕ → Type 0) (p : ℕ) : Type 0 where
  pub row : ℕ
  pub column : ℕ
  pub one_of : some row
  pub in_section : row < tranche_count s
  pub rating_least : 4 ≤ column
  pub rating_most : column < tranche_size
  pub at : p ≡ tranche_at s row + column

-- s' is s but for rating words of some tranches
pub record SameButRatings (s s' : List ℕ) (some : ℕ → Type 0) : Type 0 where
  pub same_length : length s' ≡ length s
  pub same_word : (p : ℕ) → (RatingOf s some p → ⊥) → word s' p ≡ word s p

-- the tranches of a class senior to that of tranche i: their ratings never matter to its line
abbrev pub SeniorTo : List ℕ → ℕ → ℕ → Type 0
SeniorTo s i j = class s j < class s i

-- all tranches other than tranche i: their ratings do not matter to its line where
abbrev pub OtherThan : ℕ → ℕ → Type 0
OtherThan i j = j ≡ i → ⊥

-- it is rated itself, or its deal infers no rating: a re-securitisation, one under approach 3, or one without due diligence
pub data OwnRatingsOnly (s : List ℕ) (i : ℕ) : Type 0 where
  is_rated : rated_row s i ≡ true → OwnRatingsOnly s i
  in_resecuritisation : (terms s).resecuritisation ≡ true → OwnRatingsOnly s i
  under_irba : (terms s).irba ≡ true → OwnRatingsOnly s i
  without_diligence : (terms s).diligence ≡ false → OwnRatingsOnly s i

-- two sheets give tranche i the same line: in its seven words, and where they stand in results of that many words
pub record SameLine (s s' : List ℕ) (i room : ℕ) : Type 0 where
  pub same_count : tranche_count s' ≡ tranche_count s
  pub same_terms : terms s' ≡ terms s
  pub same_line : line_words (tranche s' i) (terms s') ≡ line_words (tranche s i) (terms s)
  pub same_results : (old : List ℕ) → length old ≡ room → (c : ℕ) → c < line_size →
      get_or (results_after s' old) (line_size * i + c) 0 ≡ get_or (results_after s old) (line_size * i + c) 0
