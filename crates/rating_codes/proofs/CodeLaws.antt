-- The numbers between which the codes of each kind of rating lie, and the ratings among codes in another order. No axioms.
use mathlib.Core.Bool.{Bool, true, false, cond}
use mathlib.Core.List.{List, [], ◌∷◌}
use mathlib.Core.List.Permᴰ
use mathlib.Core.List.{Perm, Permᴰ}
use mathlib.Core.Logic.{∥∥₁_map}
use mathlib.Core.Path.{◌≡◌, refl}
use Prim.Native.Nat.{ℕ, ◌+◌, ◌≤◌}
use native.Mathlib.Omega.{arith}
use lib.ListN.{length}
use Rattle.numbers.proofs.Tests.{between_true}
use Rattle.rating_codes.specs.RatingCodes.{long_term, short_term, present, ratings_among}

pub long_term_within : (code : ℕ) → long_term code ≡ true → (1 ≤ code) × (code ≤ 18)
long_term_within = between_true 1 18

pub short_term_within : (code : ℕ) → short_term code ≡ true → (21 ≤ code) × (code ≤ 24)
short_term_within = between_true 21 24

-- one code and those after it, counted apart
pub count_first : (code : ℕ) (codes : List ℕ) → length (ratings_among (code ∷ codes)) ≡ length (ratings_among (code ∷ [])) + length (ratings_among codes)
count_first code codes = by_test (present code)
  where
    by_test : (t : Bool) → length (cond t (code ∷ ratings_among codes) (ratings_among codes)) ≡ length (cond t (code ∷ []) []) + length (ratings_among codes)
    by_test true = omega arith
    by_test false = omega arith

-- a code before others in another order, by whether it is a rating
one_before :
    (t : Bool) (code : ℕ) {codes others : List ℕ} →
    Permᴰ codes others → Permᴰ (cond t (code ∷ codes) codes) (cond t (code ∷ others) others)
one_before true code p = Permᴰ.cons refl p
one_before false code p = p

-- two codes exchanged, by whether each is a rating
two_exchanged :
    (s t : Bool) (a b : ℕ) (codes : List ℕ) →
    Permᴰ
    (cond s (a ∷ cond t (b ∷ codes) codes) (cond t (b ∷ codes) codes))
    (cond t (b ∷ cond s (a ∷ codes) codes) (cond s (a ∷ codes) codes))
two_exchanged true true a b codes = Permᴰ.swap refl refl
two_exchanged true false a b codes = Permᴰ.refl (a ∷ codes)
two_exchanged false true a b codes = Permᴰ.refl (b ∷ codes)
two_exchanged false false a b codes = Permᴰ.refl codes

among_permuted : {codes others : List ℕ} → Permᴰ codes others → Permᴰ (ratings_among codes) (ratings_among others)
among_permuted Permᴰ.nil = Permᴰ.nil
among_permuted (Permᴰ.cons {b = b} e p) = rw e (one_before (present b) b (among_permuted p))
among_permuted (Permᴰ.swap {a = a} {b = b} {l = l} e f) =
    rw (← e, ← f) (two_exchanged (present a) (present b) a b (ratings_among l))
among_permuted (Permᴰ.trans p q) = Permᴰ.trans (among_permuted p) (among_permuted q)

-- codes in another order have the same ratings among them, in another order
pub ratings_permuted : {codes others : List ℕ} → Perm codes others → Perm (ratings_among codes) (ratings_among others)
ratings_permuted {codes} {others} p = ∥∥₁_map {B = Permᴰ (ratings_among codes) (ratings_among others)} p among_permuted
