-- 01, "The deal sheet": "Rating codes: 0 none; 1 to 18 the rows of the rating table; 21 to 24 the short-term grades." What a rating weighs is in
-- RatingTable.antt of `ratings`.
use Rattle.std.specs.Prelude.{Bool, cond, ◌&&◌, ◌||◌, List, [], ◌∷◌, ℕ, leb, eqb}

-- "1 to 18 the rows of the rating table"
abbrev pub long_term : ℕ → Bool
long_term code = leb 1 code && leb code 18

-- "21 to 24 the short-term grades"
abbrev pub short_term : ℕ → Bool
short_term code = leb 21 code && leb code 24

-- a rating, of either kind
abbrev pub present : ℕ → Bool
present code = long_term code || short_term code

-- "Any of the tranche's three ratings present"
abbrev pub any_present : ℕ → ℕ → ℕ → Bool
any_present first second third = present first || present second || present third

-- "0 none", or a rating
abbrev pub listed : ℕ → Bool
listed code = eqb code 0 || present code

-- the ratings among some codes, in their order: "0 none" is left out, and so is a code that is not listed
abbrev pub ratings_among : List ℕ → List ℕ
ratings_among [] = []
ratings_among (code ∷ codes) = cond (present code) (code ∷ ratings_among codes) (ratings_among codes)
