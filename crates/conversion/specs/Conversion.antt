-- 02, S-9, the converter: its refusals, its answer, and the lent output as it is left.
use Rattle.std.specs.Prelude.{cond, List, ◌++◌, ℕ, ◌%◌, ltb, eqb, length, drop}
use Rattle.judgement.specs.DealSheet.{in_hundredths, rows, weight_at, weight_word}
use Rattle.judgement.specs.Outcome.{Outcome, outcome}
use Rattle.judgement.specs.Refusals.{refused, or_else, first_of, words_verdict}
use Rattle.judgement.specs.Verdicts.{Verdict, Sound, Faulty}
use Rattle.conversion.specs.RewrittenSheet.{rewritten}

-- ---- the refusals, at the places of the sheet as it is given

-- "a weight that is not a multiple of 100 gets 19 at its place"
abbrev pub percent_verdict : List ℕ → ℕ → Verdict
percent_verdict s i = cond (eqb (weight_word s i % 100) 0) Sound (refused 19 (weight_at s i))

-- "Going down to percent": of a sheet in hundredths the first such weight decides
abbrev pub weights_verdict : List ℕ → Verdict
weights_verdict s = cond (in_hundredths s) (first_of (λ i. percent_verdict s i) (rows s)) Sound

-- "then an output too short for the rewritten sheet gets 14 at place 0"
abbrev pub output_verdict : List ℕ → ℕ → Verdict
output_verdict s room = cond (ltb room (length (rewritten s))) (refused 14 0) Sound

-- 19, "then" 14: what is judged of a sheet whose words are good; "13 is not judged here"
abbrev pub after_words : List ℕ → ℕ → Verdict
after_words s room = or_else (weights_verdict s) (output_verdict s room)

-- 19 comes "after the refusals of the words and 3"
unfoldable pub conversion_verdict : List ℕ → ℕ → Verdict
conversion_verdict s room = or_else (words_verdict s) (after_words s room)

-- ---- the answer: a refusal's number and place; "its answer counts the words written"

-- the numbers that a sheet is due, with room for that many output words
unfoldable pub conversion_numbers : List ℕ → ℕ → Outcome ℕ
conversion_numbers s room = outcome (length (rewritten s)) (conversion_verdict s room)

-- ---- the output: the rewritten sheet, later words untouched; "a refusal writes nothing"

abbrev pub output_for : List ℕ → List ℕ → Verdict → List ℕ
output_for s old Sound = rewritten s ++ drop (length (rewritten s)) old
output_for s old (Faulty r) = old

unfoldable pub output_after : List ℕ → List ℕ → List ℕ
output_after s old = output_for s old (conversion_verdict s (length old))

-- ---- for private contracts: the same of a sheet whose words are good

unfoldable pub numbers_judged : List ℕ → ℕ → Outcome ℕ
numbers_judged s room = outcome (length (rewritten s)) (after_words s room)

unfoldable pub output_judged : List ℕ → List ℕ → List ℕ
output_judged s old = output_for s old (after_words s (length old))
