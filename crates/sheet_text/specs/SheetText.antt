-- The text that a desk writes a sheet in: words in decimal with white space between them, and comments from `#` to the line's end. What it means: the
-- bytes of the sheet's file, or the first token that is no word, with its line.
use Rattle.std.specs.Prelude.{Result, Ok, Err, Bool, true, false, cond, not, ◌&&◌, ◌||◌, List, [], ◌∷◌, ◌++◌, ℕ, suc, ◌*◌, ◌-◌, ◌^◌, min, leb, eqb, length, drop}
use Rattle.limits.specs.SheetSize.{byte_limit}
use Rattle.files.specs.Decimal.{newline, space, all_digits, value_from}
use Rattle.files.specs.FileForm.{file_bytes}
use Rattle.sheet_text.specs.declared.TextFault.{TextFault}
use Rattle.sheet_text.specs.declared.TextFault.TheVariants.{NotDecimal, TooLarge, TooMany}
use Rattle.sheet_text.specs.declared.Span.{Span}

-- ---- characters, by their codes

-- `#`
abbrev pub hash : ℕ
hash = 35

-- white space: a space, or one of tab, newline, vertical tab, form feed and carriage return, which have the codes 9 to 13
abbrev pub white : ℕ → Bool
white b = eqb b space || (leb 9 b && leb b 13)

-- ---- comments: from `#` to the line's end, each character of a comment read as a space; `inside` says whether a comment has begun

unfoldable pub uncommented : Bool → List ℕ → List ℕ
uncommented inside [] = []
uncommented inside (b ∷ bs) =
    cond (eqb b newline) (b ∷ uncommented false bs)
    (cond (inside || eqb b hash) (space ∷ uncommented true bs)
    (b ∷ uncommented false bs))

-- ---- tokens: characters in a row with no white space among them

pub record Token : Type 0 where
  -- counted from 1
  pub line : ℕ
  -- the place after its last character, counted from 0
  pub end : ℕ
  pub characters : List ℕ

-- the token that ends at a place, if it has any characters
abbrev pub ended : ℕ → ℕ → List ℕ → List Token
ended line place [] = []
ended line place (b ∷ bs) = record { line = line; end = place; characters = b ∷ bs } ∷ []

-- the tokens from a place on, where `begun` are the characters of a token that has begun before it
unfoldable pub tokens_from : ℕ → ℕ → List ℕ → List ℕ → List Token
tokens_from line place begun [] = ended line place begun
tokens_from line place begun (b ∷ bs) =
    cond (white b)
    (ended line place begun ++ tokens_from (cond (eqb b newline) (suc line) line) (suc place) [] bs)
    (tokens_from line (suc place) (begun ++ b ∷ []) bs)

unfoldable pub tokens : List ℕ → List Token
tokens text = tokens_from 1 0 [] (uncommented false text)

-- ---- the word of a token

abbrev pub value : Token → ℕ
value t = value_from 0 t.characters

-- a number over 64 bits
abbrev pub too_large : Token → Bool
too_large t = leb (2 ^ 64) (value t)

unfoldable pub words : List Token → List ℕ
words [] = []
words (t ∷ ts) = value t ∷ words ts

-- ---- what a text makes

-- where a token stands: its line, the place of its first character and the place after its last
abbrev pub span_of : Token → Span
span_of t = record { line = t.line; start = t.end - length t.characters; end = t.end }

-- the first token that is no word decides; else the bytes, eight to a word, must fit the room and be no more than a sheet's file has. n words were
-- read before
unfoldable pub made_from : ℕ → ℕ → List Token → Result ℕ TextFault
made_from room n [] = cond (leb (8 * n) (min room byte_limit)) (Ok (8 * n)) (Err (TooMany n))
made_from room n (t ∷ ts) =
    cond (not (all_digits t.characters)) (Err (NotDecimal (span_of t)))
    (cond (too_large t) (Err (TooLarge (span_of t)))
    (made_from room (suc n) ts))

abbrev pub made_of : List ℕ → ℕ → Result ℕ TextFault
made_of text room = made_from room 0 (tokens text)

-- lent bytes after a text was turned into a file's bytes: those bytes, and the rest as it was; all as it was where it makes none
abbrev pub bytes_for : List ℕ → List ℕ → Result ℕ TextFault → List ℕ
bytes_for text old (Ok n) = file_bytes (words (tokens text)) ++ drop n old
bytes_for text old (Err fault) = old
