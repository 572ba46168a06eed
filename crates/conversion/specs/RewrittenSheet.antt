-- 02, S-9, "Finer loan weights, and a converter": "A converter rewrites a sheet from either unit to the other and gives the same lines for it": the rewritten sheet. That it gives the same lines, and that
-- it is rewritten back to the sheet whose facts are filled, are `same_lines` and `converts_back` (proofs/ConversionLaws.antt).
use Rattle.std.specs.Prelude.{Bool, cond, ◌&&◌, List, [], ◌∷◌, ℕ, suc, ◌*◌, ◌/◌, ltb, eqb}
use Rattle.limits.specs.SheetSize.{facts_most, row_size}
use Rattle.judgement.specs.DealSheet.{unit_at, in_hundredths, pool_at, tranches_at}
use Rattle.judgement.specs.FilledFacts.{filled}
use Rattle.judgement.specs.Refusals.{column_of}

-- "Shorter fact lists are filled with zeros first."
abbrev pub all_facts : List ℕ → List ℕ
all_facts s = filled facts_most s

-- the other unit: "0 whole percent, 1 hundredths"
abbrev pub other_unit : Bool → ℕ
other_unit hundredths = cond hundredths 0 1

-- a risk weight word in the other unit
abbrev pub other_weight : Bool → ℕ → ℕ
other_weight hundredths w = cond hundredths (w / 100) (w * 100)

-- whether the risk weight of a pool row stands at place p: in the pool, in the third column
abbrev pub is_weight_place : List ℕ → ℕ → Bool
is_weight_place s p = ltb (pool_at s) p && ltb p (tranches_at s) && eqb (column_of row_size (pool_at s) p) 2

-- the word at place p of a sheet with all facts, rewritten: the unit and each risk weight, "from either unit to the other"; any other word stays
abbrev pub rewritten_word : List ℕ → ℕ → ℕ → ℕ
rewritten_word s p w = cond (eqb p unit_at) (other_unit (in_hundredths s)) (cond (is_weight_place s p) (other_weight (in_hundredths s) w) w)

-- every word of a list rewritten by its place, where the first stands at place p
unfoldable pub each_word : (ℕ → ℕ → ℕ) → ℕ → List ℕ → List ℕ
each_word f p [] = []
each_word f p (w ∷ ws) = f p w ∷ each_word f (suc p) ws

-- a sheet with all facts in the other unit
abbrev pub in_other_unit : List ℕ → List ℕ
in_other_unit s = each_word (rewritten_word s) 0 s

-- the rewritten sheet
unfoldable pub rewritten : List ℕ → List ℕ
rewritten s = in_other_unit (all_facts s)
