-- A text read once from left to right: what a step of the reading makes and what holds at a place of the text. Only contracts of private functions cite
-- this, so no reader has to trust it.
use Rattle.std.specs.Prelude.{Result, Ok, Err, Bool, false, cond, ◌||◌, List, ◌++◌, ◌≡◌, ℕ, suc, ◌+◌, ◌*◌, ◌-◌, ◌^◌, ◌≤◌, leb, eqb, length, take}
use Rattle.files.specs.Decimal.{digit, all_digits, newline, space, value_from}
use Rattle.sheet_text.specs.SheetText.{hash, Token, words, made_from, bytes_for}
use Rattle.sheet_text.specs.declared.TextFault.{TextFault}
use Rattle.sheet_text.specs.declared.Span.{Span}
use Rattle.sheet_text.specs.declared.tokens.Numeral.{Numeral}
use Rattle.sheet_text.specs.declared.tokens.Numeral.TheVariants.{Number, Over, Other}
use Rattle.sheet_text.specs.declared.tokens.Scan.{Scan}

-- ---- characters and comments

-- a character as it is read after a comment has begun or not: one of a comment, but for the newline that ends it, is a space
abbrev pub seen : Bool → ℕ → ℕ
seen comment b = cond (eqb b newline) b (cond (comment || eqb b hash) space b)

-- whether a comment goes on after a character
abbrev pub comment_after : Bool → ℕ → Bool
comment_after comment b = cond (eqb b newline) false (comment || eqb b hash)

-- ---- what characters make

-- a number by its size
abbrev pub fitted : ℕ → Numeral
fitted n = cond (leb (2 ^ 64) n) Over (Number n)

unfoldable pub numeral_of : List ℕ → Numeral
numeral_of cs = cond (all_digits cs) (fitted (value_from 0 cs)) Other

-- with one character more
abbrev pub one_more : Numeral → ℕ → Numeral
one_more (Number v) b = fitted (10 * v + (b - 48))
one_more Over b = Over
one_more Other b = Other

abbrev pub with_character : Numeral → ℕ → Numeral
with_character n b = cond (digit b) (one_more n b) Other

-- ---- where a scan stands

-- behind white space, with the number of words up to there
abbrev pub past_white : Scan → ℕ → ℕ → Scan
past_white s b count =
    record {
      at = s.at + 1;
      newlines = cond (eqb b newline) (suc s.newlines) s.newlines;
      count = count;
      size = 0;
      numeral = Number 0;
    }

-- behind a character of a token
abbrev pub past_character : Scan → ℕ → Scan
past_character s b =
    record {
      at = s.at + 1;
      newlines = s.newlines;
      count = s.count;
      size = s.size + 1;
      numeral = with_character s.numeral b;
    }

-- where the token under way stands if it ends here
abbrev pub span_at : Scan → Span
span_at s = record { line = suc s.newlines; start = s.at - s.size; end = s.at }

-- the newlines before it, or the words, and the characters of the token under way are no more than the characters before it
pub record Counted (s : Scan) : Type 0 where
  pub lines : s.newlines + s.size ≤ s.at
  pub words : s.count + s.size ≤ s.at

-- the characters of the token under way are summed up
pub record Sums (s : Scan) (begun : List ℕ) : Type 0 where
  pub size : s.size ≡ length begun
  pub numeral : s.numeral ≡ numeral_of begun

-- of all tokens n are words that were read, and some are ahead; the words read are stored as far as they have room
pub record Onward (all : List Token) (n : ℕ) (stored : List ℕ) (ahead : List Token) : Type 0 where
  pub made : (room : ℕ) → made_from room 0 all ≡ made_from room n ahead
  pub kept : n ≤ length stored → words all ≡ take n stored ++ words ahead

-- all tokens make the same, no bytes, whatever room there is
pub record Refuses (all : List Token) (fault : TextFault) : Type 0 where
  pub made : (room : ℕ) → made_from room 0 all ≡ Err fault
  pub unwritten : (text old : List ℕ) → bytes_for text old (Err fault) ≡ old

-- what the end of a token before a place leads to
abbrev pub Ends : List Token → ℕ → List ℕ → List Token → Result ℕ TextFault → Type 0
Ends all place stored ahead (Ok n) = (n ≤ place) × Onward all n stored ahead
Ends all place stored ahead (Err fault) = Refuses all fault
