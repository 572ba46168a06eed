-- The order of a sheet's sections: where each begins after the one before it, and that the words that the sheet needs go on past them all. Proofs about words of a
-- section go by these laws and not by what `needed` is, so that a section more moves this file: `needed_is` alone says where the last one ends. They hold for every list of
-- words. No axioms.
use mathlib.Core.Bool.{Bool, true, false, cond}
use mathlib.Core.List.{List}
use mathlib.Core.Path.{◌≡◌, refl}
use Prim.Native.Nat.{ℕ, ◌+◌, ◌*◌, ◌≤◌, ◌<◌}
use native.Mathlib.Omega.{arith}
use borrow.Author.Tests.{eq-eqb, ne_eqb}
use Rattle.judgement.specs.DealSheet.{pool_kind, pool_at, rows, row_at, tranches_at, tranche_count, tranche_at, has_irb, irb_at, irb_place, irb_words, needed}

pub pool_at_least : (s : List ℕ) → 1 ≤ pool_at s
unfolding pool_at
pool_at_least s = omega arith

pub tranches_at_past_rows : (s : List ℕ) → tranches_at s ≡ pool_at s + 1 + 4 * rows s
unfolding tranches_at
tranches_at_past_rows s = refl

pub irb_at_past_tranches : (s : List ℕ) → irb_at s ≡ tranches_at s + 1 + 7 * tranche_count s
unfolding irb_at
irb_at_past_tranches s = refl

-- the place past the last section
pub needed_is : (s : List ℕ) → needed s ≡ irb_at s + irb_words s
unfolding needed
needed_is s = refl

-- by the pool's kind the sheet has the IRB section or not

pub has_irb_lem : (s : List ℕ) → (pool_kind s ≡ 0 → ⊥) → has_irb s ≡ true
has_irb_lem s other = simp (ne_eqb (pool_kind s) 0 other)

pub has_no_irb : (s : List ℕ) → pool_kind s ≡ 0 → has_irb s ≡ false
has_no_irb s none = simp (eq-eqb (pool_kind s) 0 none)

-- it has seven words with its count, or is not there
pub irb_words_lem : (s : List ℕ) → has_irb s ≡ true → irb_words s ≡ 7
irb_words_lem s has = rw has

pub no_irb_words : (s : List ℕ) → has_irb s ≡ false → irb_words s ≡ 0
no_irb_words s none = rw none

pub irb_words_most : (s : List ℕ) → irb_words s ≤ 7
irb_words_most s = either (has_irb s)
  where
    either : (has : Bool) → cond has 7 0 ≤ 7
    either true = omega arith
    either false = omega arith

-- ---- all that stands before it is needed

pub tranche_word_needed : (s : List ℕ) (i c : ℕ) → i < tranche_count s → c < 7 → tranche_at s i + c < needed s
tranche_word_needed s i c row column = omega (arith, irb_at_past_tranches s, needed_is s)

pub tranche_count_needed : (s : List ℕ) → tranches_at s + 1 ≤ needed s
tranche_count_needed s = omega (arith, irb_at_past_tranches s, needed_is s)

pub row_word_needed : (s : List ℕ) (i c : ℕ) → i < rows s → c < 4 → row_at s i + c < needed s
row_word_needed s i c row column = omega (arith, tranches_at_past_rows s, tranche_count_needed s)

pub pool_count_needed : (s : List ℕ) → pool_at s + 1 ≤ needed s
pool_count_needed s = omega (arith, tranches_at_past_rows s, tranche_count_needed s)

pub irb_word_needed : (s : List ℕ) (c : ℕ) → has_irb s ≡ true → c < 6 → irb_place s c < needed s
irb_word_needed s c has column = omega (arith, needed_is s, irb_words_lem s has)

pub irb_count_needed : (s : List ℕ) → has_irb s ≡ true → irb_at s < needed s
irb_count_needed s has = omega (arith, needed_is s, irb_words_lem s has)
