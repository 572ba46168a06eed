-- 01, "Checked deals", and 02, S-6, "Both ends in the report": what the report program prints of a file: "tranche number, then the six words; last line sums risk-weighted amounts and
-- capital"; "The printed line gains the seventh word at its end"; "A refusal prints `refused NUMBER at PLACE`." A text is the list of its bytes.
use Rattle.std.specs.Prelude.{Result, Ok, Err, cond, List, [], ◌∷◌, ◌++◌, ℕ, zero, suc, ◌+◌, ◌*◌, leb, eqb, length, get_or, take, drop}
use Prim.Native.Char.{code}
use Prim.Native.String.{String, [] as empty, ◌∷◌ as ◌then◌}
use Rattle.limits.specs.SheetSize.{line_size, tranches_most, result_room}
use Rattle.files.specs.Decimal.{space, newline, digits_most, decimal}
use Rattle.files.specs.FileForm.{file_words}
use Rattle.deal.specs.Results.{Reply, reply_to, lines}
use Rattle.numbers.specs.Sum.{sum}
use Rattle.deal_file.specs.FileAnswer.{file_reply}
use Rattle.report.specs.declared.NoRoom.{NoRoom}

-- the bytes of a text in ASCII
unfoldable pub ascii : String → List ℕ
ascii empty = []
ascii (c then s) = code c ∷ ascii s

-- ---- lines

-- a line of two numbers, each after its label
unfoldable pub labelled : String → ℕ → String → ℕ → List ℕ
labelled first n second m = ascii first ++ decimal n ++ ascii second ++ decimal m ++ newline ∷ []

-- a line of numbers with single spaces between them
unfoldable pub spaced : ℕ → List ℕ → List ℕ
spaced n [] = decimal n ++ newline ∷ []
spaced n (m ∷ ns) = decimal n ++ space ∷ spaced m ns

-- a line of words, of which there is at least one
abbrev pub words_line : List ℕ → List ℕ
words_line [] = newline ∷ []
words_line (w ∷ ws) = spaced w ws

-- "A refusal prints `refused NUMBER at PLACE`."
abbrev pub refusal_line : ℕ → ℕ → List ℕ
refusal_line number place = labelled "refused " number " at " place

-- "tranche number, then the six words"; S-6: "The printed line gains the seventh word at its end". ws are the words of the results; the number counts from 1,
-- i from 0
abbrev pub tranche_line : List ℕ → ℕ → List ℕ
tranche_line ws i = spaced (suc i) (take line_size (drop (line_size * i) ws))

unfoldable pub tranche_lines : List ℕ → ℕ → List ℕ
tranche_lines ws zero = []
tranche_lines ws (suc n) = tranche_lines ws n ++ tranche_line ws n

-- "last line sums risk-weighted amounts and capital": their columns, from 0, among "approach ..., A, D, weight, risk-weighted amount, capital" and the
-- seventh word
abbrev pub rwa_column : ℕ
rwa_column = 4

abbrev pub capital_column : ℕ
capital_column = 5

-- the sum of a column over n tranches
abbrev pub column_sum : List ℕ → ℕ → ℕ → ℕ
column_sum ws column n = sum (λ i. get_or ws (line_size * i + column) 0) n

abbrev pub total_line : List ℕ → ℕ → List ℕ
total_line ws n = labelled "total " (column_sum ws rwa_column n) " " (column_sum ws capital_column n)

-- ---- the whole text

-- the text of an accepted deal, from its pool charge, the number of its tranches and the words of its results
unfoldable pub deal_text : ℕ → ℕ → List ℕ → List ℕ
deal_text charge n ws = labelled "charge " charge " tranches " n ++ tranche_lines ws n ++ total_line ws n

-- the text of a sheet that is due a reply: a refusal's number is never 0
abbrev pub text_for : List ℕ → Reply → List ℕ
text_for s a = cond (eqb a.number 0) (deal_text a.charge a.count (lines s a.count)) (refusal_line a.number a.place)

-- the text of a sheet, with room for the results of every sheet
unfoldable pub sheet_text : List ℕ → List ℕ
sheet_text s = text_for s (reply_to s result_room)

-- the text of a file: that of the reply that it is due, with the lines of its words where it is accepted
unfoldable pub file_text : List ℕ → List ℕ
file_text file = text_for (file_words file) (file_reply file result_room)

-- ---- how long a text can be

-- a number and the byte after it
abbrev pub number_room : ℕ
number_room = digits_most + 1

-- a line of numbers: one, and so many words
abbrev pub spaced_room : ℕ → ℕ
spaced_room words = number_room * (1 + words)

-- a line of two numbers whose labels have so many bytes together
abbrev pub labelled_room : ℕ → ℕ
labelled_room labels = labels + digits_most + number_room

-- no text is longer: a first line whose labels, "charge " and " tranches ", have 17 bytes, a line for each of the most tranches, and a last line whose labels,
-- "total " and " ", have 7
abbrev pub text_room : ℕ
text_room = labelled_room 17 + spaced_room line_size * tranches_most + labelled_room 7

-- and no line of a refusal: its labels, "refused " and " at ", have 12
abbrev pub refusal_room : ℕ
refusal_room = labelled_room 12

-- ---- the text in a lent list of bytes

-- the answer: the text's length, and whether there was room for it
abbrev pub written_for : List ℕ → List ℕ → Result ℕ NoRoom
written_for text old = cond (leb (length text) (length old)) (Ok (length text)) (Err (record { needed = length text }))

-- lent bytes after the text is written: the text, and the rest as it was; all as it was where there is no room
abbrev pub text_after : List ℕ → List ℕ → List ℕ
text_after text old = cond (leb (length text) (length old)) (text ++ drop (length text) old) old
