-- 02, S-7, "Totals by portfolio": "The desks compare portfolio subtotals with ours." What the program portfolio_totals prints of a file: a line for each block of the pool's rows, and a last
-- line with the pool's sums; a refusal as the report prints it. "a sheet, which gets only the refusals before 14": those of its words and 3, and of a file 15 before all.
use Rattle.std.specs.Prelude.{cond, List, [], ◌∷◌, ◌++◌, ℕ, zero, suc, ◌+◌, ◌*◌}
use Rattle.limits.specs.SheetSize.{block_size, blocks_most}
use Rattle.numbers.specs.Sum.{block_start, block_end}
use Rattle.files.specs.FileForm.{good_length, file_words}
use Rattle.charge.specs.declared.Sums.{Sums}
use Rattle.judgement.specs.DealSheet.{rows}
use Rattle.judgement.specs.Refusals.{words_verdict}
use Rattle.judgement.specs.Verdicts.{Verdict, Sound, Faulty}
use Rattle.pool.specs.PoolSums.{pool_sums}
use Rattle.pool.specs.BlockSums.{block_sums, blocks, sum_words}
use Rattle.report.specs.ReportText.{ascii, words_line, refusal_line, spaced_room}

-- ---- lines

-- the line of block b of a pool of n rows: its number, its first and its last row, counted from 1, and its seven sums
abbrev pub block_line : ℕ → ℕ → Sums → List ℕ
block_line n b q = words_line (b ∷ suc (block_start block_size b) ∷ block_end block_size n b ∷ sum_words q)

-- the lines of the first k blocks
unfoldable pub block_lines : List ℕ → ℕ → List ℕ
block_lines s zero = []
block_lines s (suc k) = block_lines s k ++ block_line (rows s) k (block_sums s k)

-- the last line
abbrev pub pool_line : Sums → List ℕ
pool_line q = ascii "total " ++ words_line (sum_words q)

-- ---- the whole text

-- of a sheet whose words are good
unfoldable pub totals_text : List ℕ → List ℕ
totals_text s = block_lines s (blocks s) ++ pool_line (pool_sums s)

-- of a sheet by the verdict on its words
abbrev pub totals_for : List ℕ → Verdict → List ℕ
totals_for s Sound = totals_text s
totals_for s (Faulty r) = refusal_line r.number r.place

-- of a file: "15 comes before all."
unfoldable pub file_totals : List ℕ → List ℕ
file_totals file = cond (good_length file) (totals_for (file_words file) (words_verdict (file_words file))) (refusal_line 15 0)

-- ---- how long a text can be: a line for each of the most blocks, of its number and nine words, and a last line, whose label, "total ", has 6 bytes

abbrev pub totals_room : ℕ
totals_room = spaced_room 9 * blocks_most + (6 + spaced_room 6)
