-- The scan of a text: it begins with nothing read; it goes on past white space that ends a token and past a character
-- of one; at the text's end the last token ends. No axioms.
use mathlib.Core.Bool.{Bool, true, false, cond, ◌||◌}
use mathlib.Core.List.{List, [], ◌∷◌, ◌++◌, append-nil}
use mathlib.Core.Path.{◌≡◌, refl, ◌∙◌, sym, ap}
use Prim.Native.Nat.{ℕ, suc, ◌+◌, ◌≤◌, ◌<◌}
use native.Mathlib.Numerals.{add-one}
use native.Mathlib.Omega.{arith}
use lib.Dec.{eqb}
use lib.ListN.{length, get_or, drop, length-append, drop_of_length-le}
use lib.Seq.{drop-cons}
use Rattle.files.specs.Decimal.{all_digits, newline, space, value_from}
use Rattle.sheet_text.specs.SheetText.{hash, white, uncommented, Token, ended, tokens_from, tokens}
use Rattle.sheet_text.specs.Scanning.{seen, comment_after, numeral_of, with_character, past_white, past_character, Counted, Sums, Onward}
use Rattle.sheet_text.specs.declared.tokens.Numeral.TheVariants.{Number}
use Rattle.sheet_text.specs.declared.tokens.Scan.{Scan}
use Rattle.sheet_text.proofs.NumeralLaws.{numeral_longer}

-- a scan with the rest of the text yet to be read
pub record Reading (all : List Token) (comment : Bool) (s : Scan) (stored rest : List ℕ) : Type 0 where
  pub begun : List ℕ
  pub counted : Counted s
  pub sums : Sums s begun
  pub onward : Onward all s.count stored (tokens_from (suc s.newlines) s.at begun (uncommented comment rest))

-- a scan of a text, of which it has read what stands before its place
abbrev pub InText : List ℕ → Bool → Scan → List ℕ → Type 0
InText text comment s stored = Reading (tokens text) comment s stored (drop s.at text)

-- ---- the next character

uncommented_next : (comment : Bool) (b : ℕ) (bs : List ℕ) → uncommented comment (b ∷ bs) ≡ seen comment b ∷ uncommented (comment_after comment b) bs
unfolding uncommented
uncommented_next comment b bs = by (eqb b newline) (comment || eqb b hash)
  where
    by : (p q : Bool) →
        cond p (b ∷ uncommented false bs) (cond q (space ∷ uncommented true bs) (b ∷ uncommented false bs)) ≡
        cond p b (cond q space b) ∷ uncommented (cond p false q) bs
    by true q = refl
    by false true = refl
    by false false = refl

-- what is left of a text as it is read: the character at a place and the rest
left_next :
    (text : List ℕ) (comment : Bool) (at : ℕ) → at < length text →
    uncommented comment (drop at text) ≡
    seen comment (get_or text at 0) ∷ uncommented (comment_after comment (get_or text at 0)) (drop (suc at) text)
left_next text comment at within = rw (drop-cons text at 0) (uncommented_next comment (get_or text at 0) (drop (suc at) text))

-- the tokens behind white space
abbrev pub behind_white : List ℕ → Bool → Scan → ℕ → List Token
behind_white text comment s b =
    tokens_from (cond (eqb b newline) (suc (suc s.newlines)) (suc s.newlines)) (suc s.at) [] (uncommented comment (drop (suc s.at) text))

tokens_at_white :
    (line place b : ℕ) (begun bs : List ℕ) → white b ≡ true →
    tokens_from line place begun (b ∷ bs) ≡ ended line place begun ++ tokens_from (cond (eqb b newline) (suc line) line) (suc place) [] bs
unfolding tokens_from
tokens_at_white line place b begun bs is = rw is

tokens_at_character :
    (line place b : ℕ) (begun bs : List ℕ) → white b ≡ false → tokens_from line place begun (b ∷ bs) ≡ tokens_from line (suc place) (begun ++ b ∷ []) bs
unfolding tokens_from
tokens_at_character line place b begun bs isnt = rw isnt

-- ---- the scan

pub scan_begins :
    (text stored : List ℕ) → InText text false (record { at = 0; newlines = 0; count = 0; size = 0; numeral = Number 0 }) stored
unfolding tokens numeral_of all_digits value_from
scan_begins text stored =
    record {
      begun = [];
      counted = omega arith;
      sums = record { size = refl; numeral = refl };
      onward = record { made = λ room. refl; kept = λ h. refl };
    }

module _ (text : List ℕ) (comment next : Bool) (s : Scan) (b i : ℕ) (here : s.at ≡ i) (within : i < length text)
    (read : b ≡ seen comment (get_or text i 0)) (goes : next ≡ comment_after comment (get_or text i 0)) where
  left : uncommented comment (drop s.at text) ≡ b ∷ uncommented next (drop (suc s.at) text)
  left = rw (read, goes, here) (left_next text comment i within)

  -- white space ends a token
  pub white_met :
      (stored : List ℕ) (r : InText text comment s stored) → white b ≡ true →
      Onward (tokens text) s.count stored (ended (suc s.newlines) s.at r.begun ++ behind_white text next s b)
  white_met stored r is =
      rw (← tokens_at_white (suc s.newlines) s.at b r.begun (uncommented next (drop (suc s.at) text)) is, ← left) r.onward

  pub past_character_lem :
      (stored : List ℕ) → InText text comment s stored → white b ≡ false → InText text next (past_character s b) stored
  past_character_lem stored r isnt =
      record {
        begun = r.begun ++ b ∷ [];
        counted = omega arith;
        sums = record {
          size = omega (arith, length-append r.begun (b ∷ []));
          numeral = ap (λ n. with_character n b) r.sums.numeral ∙ sym (numeral_longer r.begun b);
        };
        onward = rw (add-one, ← tokens_at_character (suc s.newlines) s.at b r.begun (uncommented next (drop (suc s.at) text)) isnt, ← left)
            r.onward;
      }

-- the scan goes on behind the white space with the words up to there
pub past_white_lem :
    (text : List ℕ) (comment : Bool) (s : Scan) (b n : ℕ) (stored : List ℕ) → s.newlines ≤ s.at → n ≤ s.at →
    Onward (tokens text) n stored (behind_white text comment s b) → InText text comment (past_white s b n) stored
unfolding numeral_of all_digits value_from
past_white_lem text comment s b n stored lines counted onward =
    record {
      begun = [];
      counted = record { lines = at_most (eqb b newline); words = omega arith };
      sums = record { size = refl; numeral = refl };
      onward = rw (← same_line (eqb b newline), add-one) onward;
    }
  where
    at_most : (t : Bool) → cond t (suc s.newlines) s.newlines + 0 ≤ s.at + 1
    at_most true = omega arith
    at_most false = omega arith

    same_line : (t : Bool) → cond t (suc (suc s.newlines)) (suc s.newlines) ≡ suc (cond t (suc s.newlines) s.newlines)
    same_line true = refl
    same_line false = refl

-- at the text's end a token ends, and none is ahead
pub text_ends :
    (text : List ℕ) (comment : Bool) (s : Scan) (stored : List ℕ) (r : InText text comment s stored) → length text ≤ s.at →
    Onward (tokens text) s.count stored (ended (suc s.newlines) s.at r.begun ++ [])
unfolding uncommented tokens_from
text_ends text comment s stored r all = rw append-nil (rw (drop_of_length-le text all) at r.onward)
