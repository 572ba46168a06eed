-- 01, "The deal sheet": how many words a sheet, its rows and its results have, and "Refusals": how long a sheet's file may be; 02, S-1, S-3 and S-9, for the
-- fifth, the sixth and the seventh fact, S-5 for the fourth section, S-6 for the seventh word of a line, and S-7 for the blocks of a pool. Every limit that follows from another, and that the papers do not state themselves, is worked out here from its parts.
use Rattle.std.specs.Prelude.{ℕ, ◌+◌, ◌*◌}

-- ---- "Facts, count 4"; S-1: "A fifth fact says so (0 no, 1 yes); a sheet with four facts counts as 0."; S-3: "A sixth fact is the reporting date, ...; 0 or absent
-- means months as before."; S-9: "A seventh fact is the unit of the risk weight word": four to seven

abbrev pub facts_least : ℕ
facts_least = 4

abbrev pub facts_most : ℕ
facts_most = 7

-- ---- "Pool, count 1 to 1,000. A row: exposure amount and nominal amount, ...; risk weight ...; status ..."

abbrev pub rows_most : ℕ
rows_most = 1000

-- the words of a pool row
abbrev pub row_size : ℕ
row_size = 4

-- ---- 02, S-7: "per block of 50 rows"

abbrev pub block_size : ℕ
block_size = 50

-- 01, "Code places and language forms": "20 block subtotals". They hold just the rows of the largest pool: `rows_in_blocks` (proofs/SheetSizeLaws.antt)
abbrev pub blocks_most : ℕ
blocks_most = 20

-- ---- "Tranches, count 1 to 32. A row: amount, ...; class; final legal maturity in months, ...; amount held, ...; three rating words."

abbrev pub tranches_most : ℕ
tranches_most = 32

-- the words of a tranche row
abbrev pub tranche_size : ℕ
tranche_size = 7

-- ---- 02, S-5: "Pool kinds 1 and 2 add a fourth section, count 1, with six words"

abbrev pub irb_rows : ℕ
irb_rows = 1

-- the words of its row
abbrev pub irb_size : ℕ
irb_size = 6

-- ---- "Three sections in this order, each after its count", and S-5's fourth

-- the words of the longest sheet: four counts, facts, pool rows, tranches and the IRB section; 4,241
abbrev pub word_limit : ℕ
word_limit = 4 + facts_most + row_size * rows_most + tranche_size * tranches_most + irb_size * irb_rows

-- "The file form is the same words, eight bytes each"; "15 (reading a file only): length not a multiple of 8 or over ... bytes": the bytes of the longest sheet. "Here and
-- later, each word a sheet may gain raises the byte limit of 15 by 8.": with 01's 33,848 for four facts and three sections it is 33,928, `byte_limit_is` (proofs/SheetSizeLaws.antt).
abbrev pub byte_limit : ℕ
byte_limit = 8 * word_limit

-- ---- "Results are a lent list of words, six per tranche"; 02, S-6: "Each tranche gets a seventh word.", "14 now reads seven words per tranche"

-- the words of a tranche's line
abbrev pub line_size : ℕ
line_size = 7

-- the words of the lines of the most tranches: with that much room for its results no sheet is refused with 14
abbrev pub result_room : ℕ
result_room = line_size * tranches_most

-- ---- for the proofs

-- no place of a sheet is above it, by a wide margin: by this one bound nothing that is worked out of a place overflows
abbrev pub place_limit : ℕ
place_limit = 1000000
