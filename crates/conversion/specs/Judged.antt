-- 02, S-9, the converter's refusals in plain relations: why a sheet is not converted, and what it means that it is. That these and the definition by steps (Conversion.antt) say the same is proved in
-- proofs/JudgedLaws.antt. What the words decide is in Judged.antt of `judgement`.
use Rattle.std.specs.Prelude.{true, List, ◌≡◌, ℕ, ◌+◌, ◌-◌, ◌%◌, ◌≤◌, ◌<◌, length}
use Rattle.limits.specs.SheetSize.{facts_most}
use Rattle.judgement.specs.DealSheet.{word, in_hundredths, rows, weight_at, weight_word}
use Rattle.judgement.specs.Judged.{WordsGood, WordsRefusal}
use Rattle.judgement.specs.Verdicts.{Refusal}

-- the words of the rewritten sheet: those of the given one, and the facts that it lacks
abbrev pub rewritten_length : List ℕ → ℕ
rewritten_length s = length s + (facts_most - word s 0)

-- the risk weight of row i is a multiple of 100
abbrev pub WholePercent : List ℕ → ℕ → Type 0
WholePercent s i = weight_word s i % 100 ≡ 0

-- "Going down to percent, a weight that is not a multiple of 100 gets 19 at its place, after the refusals of the words and 3", at the first such weight
pub record NotWholePercent (s : List ℕ) (r : Refusal) : Type 0 where
  pub words : WordsGood s
  pub going_down : in_hundredths s ≡ true
  pub i : ℕ
  pub among : i < rows s
  pub not_whole : WholePercent s i → ⊥
  pub whole_before : (j : ℕ) → j < i → WholePercent s j
  pub number_is : r.number ≡ 19
  pub place_is : r.place ≡ weight_at s i

-- every weight can be written in the other unit
abbrev pub AllWhole : List ℕ → Type 0
AllWhole s = in_hundredths s ≡ true → (i : ℕ) → i < rows s → WholePercent s i

-- "then an output too short for the rewritten sheet gets 14 at place 0"
pub record OutputShort (s : List ℕ) (room : ℕ) (r : Refusal) : Type 0 where
  pub words : WordsGood s
  pub all_whole : AllWhole s
  pub short : room < rewritten_length s
  pub number_is : r.number ≡ 14
  pub place_is : r.place ≡ 0

-- why a sheet is not converted; "13 is not judged here"
pub data WhyNot (s : List ℕ) (room : ℕ) (r : Refusal) : Type 0 where
  by_words : WordsRefusal s r → WhyNot s room r
  by_weight : NotWholePercent s r → WhyNot s room r
  by_room : OutputShort s room r → WhyNot s room r

-- a sheet that is converted: every word good, none more, every weight one that the other unit can write, and room for all words
pub record Convertible (s : List ℕ) (room : ℕ) : Type 0 where
  pub words : WordsGood s
  pub all_whole : AllWhole s
  pub enough : rewritten_length s ≤ room
