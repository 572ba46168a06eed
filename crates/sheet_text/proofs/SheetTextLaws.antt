-- A text that makes bytes makes eight for each of its words, no more than there is room for and no more than a sheet's
-- file has; and each word is below 2 ^ 64. No axioms.
use mathlib.Core.Bool.{Bool, true, false, cond, not}
use mathlib.Core.List.{List, [], ◌∷◌}
use mathlib.Core.Path.{◌≡◌, refl}
use Prim.Native.Nat.{ℕ, zero, suc, ◌+◌, ◌*◌, ◌^◌, ◌≤◌, ◌<◌, min}
use native.Mathlib.Omega.{arith}
use borrow.Author.Tests.{leb-true, leb-false}
use lib.Dec.{leb}
use lib.ListN.{length, get_or}
use Rattle.std.specs.Prelude.{Ok, Err}
use Rattle.limits.specs.SheetSize.{byte_limit}
use Rattle.files.specs.Decimal.{all_digits}
use Rattle.sheet_text.specs.SheetText.{Token, tokens, value, too_large, words, span_of, made_from, made_of}
use Rattle.sheet_text.specs.declared.TextFault.TheVariants.{NotDecimal, TooLarge, TooMany}

-- with no token left, the words read before decide
made_none : (room k n : ℕ) → made_from room k [] ≡ Ok n → (n ≡ 8 * k) × (n ≤ room) × (n ≤ byte_limit)
unfolding made_from
made_none room k n = by (leb (8 * k) (min room byte_limit)) refl
  where
    by : (t : Bool) → leb (8 * k) (min room byte_limit) ≡ t → cond t (Ok (8 * k)) (Err (TooMany k)) ≡ Ok n → (n ≡ 8 * k) × (n ≤ room) × (n ≤ byte_limit)
    by true e h =
        let same : n ≡ 8 * k = cc in
        omega (arith, leb-true (8 * k) (min room byte_limit) e)
    by false e h = absurd (let z : ◌≡◌ {A = ℕ} 0 1 = cc in omega arith)

-- a token before bytes is a word
made_word : (room k n : ℕ) (t : Token) (ts : List Token) → made_from room k (t ∷ ts) ≡ Ok n → (made_from room (suc k) ts ≡ Ok n) × (value t < 2 ^ 64)
unfolding made_from
made_word room k n t ts = by (all_digits t.characters) (too_large t) refl
  where
    by : (p q : Bool) → too_large t ≡ q →
        cond (not p) (Err (NotDecimal (span_of t))) (cond q (Err (TooLarge (span_of t))) (made_from room (suc k) ts)) ≡ Ok n →
        (made_from room (suc k) ts ≡ Ok n) × (value t < 2 ^ 64)
    by true false e h = (h, leb-false (2 ^ 64) (value t) e)
    by true true e h = absurd (let z : ◌≡◌ {A = ℕ} 0 1 = cc in omega arith)
    by false q e h = absurd (let z : ◌≡◌ {A = ℕ} 0 1 = cc in omega arith)

made_all : (room k n : ℕ) (ts : List Token) → made_from room k ts ≡ Ok n → (n ≡ 8 * (k + length (words ts))) × (n ≤ room) × (n ≤ byte_limit)
unfolding words
made_all room k n [] made = omega (arith, made_none room k n made)
made_all room k n (t ∷ ts) made = omega (arith, made_all room (suc k) n ts (made_word room k n t ts made).0)

all_small : (room k n : ℕ) (ts : List Token) → made_from room k ts ≡ Ok n → (i : ℕ) → i < length (words ts) → get_or (words ts) i 0 < 2 ^ 64
unfolding words
all_small room k n [] made i within = absurd (omega arith)
all_small room k n (t ∷ ts) made zero within = (made_word room k n t ts made).1
all_small room k n (t ∷ ts) made (suc i) within = all_small room (suc k) n ts (made_word room k n t ts made).0 i (omega arith)

pub made_words : (text : List ℕ) (room n : ℕ) → made_of text room ≡ Ok n → (n ≡ 8 * length (words (tokens text))) × (n ≤ room) × (n ≤ byte_limit)
made_words text room n made = omega (arith, made_all room 0 n (tokens text) made)

pub made_small : (text : List ℕ) (room n : ℕ) → made_of text room ≡ Ok n → (i : ℕ) → i < length (words (tokens text)) → get_or (words (tokens text)) i 0 < 2 ^ 64
made_small text room n = all_small room 0 n (tokens text)
