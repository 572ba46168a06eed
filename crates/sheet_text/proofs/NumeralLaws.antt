-- What a token's characters make, with one character more, and what that means for the text. No axioms.
use mathlib.Core.Bool.{Bool, true, false, cond, not, ◌&&◌}
use mathlib.Core.List.{List, [], ◌∷◌, ◌++◌}
use mathlib.Core.Path.{◌≡◌, refl}
use Prim.Native.Nat.{ℕ, suc, ◌+◌, ◌*◌, ◌-◌, ◌^◌}
use native.Mathlib.Omega.{arith}
use borrow.Author.Tests.{leb-true, le-leb}
use lib.Dec.{leb}
use Rattle.files.specs.Decimal.{digit, all_digits, value_from}
use Rattle.files.proofs.DecimalLaws.{all_digits_longer, value_longer}
use Rattle.std.specs.Prelude.{Result, Err}
use Rattle.sheet_text.specs.SheetText.{Token, value, too_large, span_of, made_from}
use Rattle.sheet_text.specs.Scanning.{fitted, numeral_of, one_more, with_character}
use Rattle.sheet_text.specs.declared.TextFault.{TextFault}
use Rattle.sheet_text.specs.declared.TextFault.TheVariants.{NotDecimal, TooLarge}
use Rattle.sheet_text.specs.declared.Span.{Span}
use Rattle.sheet_text.specs.declared.tokens.Numeral.{Numeral}
use Rattle.sheet_text.specs.declared.tokens.Numeral.TheVariants.{Number, Over, Other}

-- ---- one character more

-- a number over 64 bits stays over
fitted_longer : (v b : ℕ) → fitted (10 * v + (b - 48)) ≡ one_more (fitted v) b
fitted_longer v b = by (leb (2 ^ 64) v) refl
  where
    by : (t : Bool) → leb (2 ^ 64) v ≡ t → fitted (10 * v + (b - 48)) ≡ one_more (cond t Over (Number v)) b
    by true e = simp (le-leb (2 ^ 64) (10 * v + (b - 48)) (omega (arith, leb-true (2 ^ 64) v e)))
    by false e = refl

pub numeral_longer : (cs : List ℕ) (b : ℕ) → numeral_of (cs ++ b ∷ []) ≡ with_character (numeral_of cs) b
unfolding numeral_of
numeral_longer cs b =
    rw (all_digits_longer cs b, value_longer 0 cs b, fitted_longer (value_from 0 cs) b) (by (all_digits cs) (digit b))
  where
    by : (p q : Bool) → cond (p && q) (one_more (fitted (value_from 0 cs)) b) Other ≡ cond q (one_more (cond p (fitted (value_from 0 cs)) Other) b) Other
    by true true = refl
    by true false = refl
    by false true = refl
    by false false = refl

-- ---- what a token's number means for the text

-- what a text makes by the number of its next token, where later tokens would make a given answer
abbrev pub made_next : Numeral → Span → Result ℕ TextFault → Result ℕ TextFault
made_next (Number v) span later = later
made_next Over span later = Err (TooLarge span)
made_next Other span later = Err (NotDecimal span)

pub made_next_lem : (room n : ℕ) (t : Token) (ts : List Token) → made_from room n (t ∷ ts) ≡ made_next (numeral_of t.characters) (span_of t) (made_from room (suc n) ts)
unfolding made_from numeral_of
made_next_lem room n t ts = by (all_digits t.characters) (too_large t)
  where
    by : (p q : Bool) →
        cond (not p) (Err (NotDecimal (span_of t))) (cond q (Err (TooLarge (span_of t))) (made_from room (suc n) ts)) ≡
        made_next (cond p (cond q Over (Number (value t))) Other) (span_of t) (made_from room (suc n) ts)
    by true true = refl
    by true false = refl
    by false q = refl

-- the number of a good token is its value
pub number_value : (cs : List ℕ) (v : ℕ) → numeral_of cs ≡ Number v → value_from 0 cs ≡ v
unfolding numeral_of
number_value cs v = by (all_digits cs) (leb (2 ^ 64) (value_from 0 cs))
  where
    by : (p q : Bool) → cond p (cond q Over (Number (value_from 0 cs))) Other ≡ Number v → value_from 0 cs ≡ v
    by true true e = cc
    by true false e = cc
    by false q e = cc
