-- 01, "The deal sheet": "The file form is the same words, eight bytes each, lowest byte first."; and "Refusals": "15 (reading a file only): length
-- not a multiple of 8 or over ... bytes; place 0."
use Rattle.std.specs.Prelude.{Bool, cond, ◌&&◌, List, [], ◌∷◌, ◌++◌, ℕ, zero, suc, ◌+◌, ◌*◌, ◌/◌, ◌%◌, leb, eqb, length, take, drop}
use Rattle.limits.specs.SheetSize.{byte_limit}

-- ---- the length of a file

-- a length that gets no 15: 01's 33,848, raised by 8 for each word that a sheet has gained since, is `byte_limit`, now 33,928
abbrev pub good_length : List ℕ → Bool
good_length file = eqb (length file % 8) 0 && leb (length file) byte_limit

-- ---- from bytes to words

-- the number that some bytes make, "lowest byte first"
unfoldable pub lowest_first : List ℕ → ℕ
lowest_first [] = 0
lowest_first (b ∷ bs) = b + 256 * lowest_first bs

-- word i of a file, from 0
abbrev pub word_at : List ℕ → ℕ → ℕ
word_at file i = lowest_first (take 8 (drop (8 * i) file))

-- its first n words
unfoldable pub words_to : List ℕ → ℕ → List ℕ
words_to file zero = []
words_to file (suc n) = words_to file n ++ word_at file n ∷ []

abbrev pub file_words : List ℕ → List ℕ
file_words file = words_to file (length file / 8)

-- lent words after the file is loaded: its words, and the rest as it was; all as it was where the length is bad
unfoldable pub words_after : List ℕ → List ℕ → List ℕ
words_after file old = cond (good_length file) (file_words file ++ drop (length file / 8) old) old

-- ---- from words to bytes

-- the n lowest bytes of a number, the lowest first
unfoldable pub bytes_of : ℕ → ℕ → List ℕ
bytes_of zero w = []
bytes_of (suc n) w = w % 256 ∷ bytes_of n (w / 256)

unfoldable pub file_bytes : List ℕ → List ℕ
file_bytes [] = []
file_bytes (w ∷ ws) = bytes_of 8 w ++ file_bytes ws

-- whether the words' bytes fit
abbrev pub bytes_fit : List ℕ → List ℕ → Bool
bytes_fit ws old = leb (8 * length ws) (length old)

-- lent bytes after the words are stored: their bytes, and the rest as it was; all as it was where they do not fit
unfoldable pub bytes_after : List ℕ → List ℕ → List ℕ
bytes_after ws old = cond (bytes_fit ws old) (file_bytes ws ++ drop (8 * length ws) old) old
