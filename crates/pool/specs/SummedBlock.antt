-- 02, S-7: "Each block's sums can be read by a caller from a sheet, which gets only the refusals before 14": the refusal that the sheet's words get, whatever the block, or the
-- block's sums.
use Rattle.std.specs.Prelude.{List, ℕ, Result, Ok, Err}
use Rattle.charge.specs.declared.Sums.{Sums}
use Rattle.judgement.specs.Outcome.{Outcome, refused_with, refused_by, found, outcome}
use Rattle.judgement.specs.Refusals.{words_verdict}
use Rattle.judgement.specs.Verdicts.{Refusal}
use Rattle.pool.specs.BlockSums.{block_sums, no_sums}

-- the numbers that block b of a sheet is due
unfoldable pub block_numbers : List ℕ → ℕ → Outcome Sums
block_numbers s b = outcome (block_sums s b) (words_verdict s)

-- the sums that are read: of a refused sheet they are 0, as they are past the last block
abbrev pub sums_read : Outcome Sums → Sums
sums_read (refused_with number place) = no_sums
sums_read (found q) = q

-- the numbers of an answer, by any way to say those of its refusal
abbrev pub numbers_by : {A E : Type 0} → (E → Refusal) → Result A E → Outcome A
numbers_by refusal (Ok a) = found a
numbers_by refusal (Err e) = refused_by (refusal e)
