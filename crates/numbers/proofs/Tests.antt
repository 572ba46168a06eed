-- Laws of equal values, of tests and of what they pick: no test both holds and fails, both, neither or either of two, two tests that say the same, numbers that were raised alike, and a picked number. No axioms.
use mathlib.Core.Bool.{Bool, true, false, cond, ◌&&◌, ◌||◌}
use mathlib.Core.Logic.{◌⊎◌, inl, inr, ⊎_elim}
use mathlib.Core.Path.{◌≡◌, refl, ◌∙◌, sym, ap, subst}
use Prim.Native.Nat.{ℕ, suc, ◌+◌, ◌-◌, ◌≤◌, ◌<◌}
use native.Mathlib.Nat.{eq-zero-or-pos, lt_of_not-le, not-le_of_lt}
use native.Mathlib.Omega.{arith}
use lib.Dec.{T, leb, ltb, eqb}
use Rattle.numbers.specs.Limits.{within}
use borrow.Author.Tests.{leb-true, eqb-true, eqb-false, le-leb, lt-leb, eq-eqb, ne_eqb}

pub true_not_false : true ≡ false → ⊥
true_not_false e = subst T e tt

-- what equals a value that has a property has it too: a promise that settles an answer and one that says what the answer keeps
pub equal_keeps : {A : Type 0} (P : A → Type 0) {d : A} → P d → {e : A} → e ≡ d → (e ≡ d) × P e
equal_keeps P holds same = (same, subst P (sym same) holds)

pub and_both : (a b : Bool) → T (a && b) → T a × T b
and_both true b t = (tt, t)
and_both false b t = absurd t

pub both_true : (a b : Bool) → a && b ≡ true → (a ≡ true) × (b ≡ true)
both_true true b e = (refl, e)
both_true false true e = (e, refl)
both_true false false e = (e, e)

-- a number that is tested between two others lies between them, and one that lies there passes the test
pub between_true : (least most n : ℕ) → within least most n ≡ true → (least ≤ n) × (n ≤ most)
between_true least most n e =
    let both = both_true (leb least n) (leb n most) e in
    (leb-true least n both.0, leb-true n most both.1)

pub within_is : (least most n : ℕ) → least ≤ n → n ≤ most → within least most n ≡ true
within_is least most n h l = simp (le-leb least n h, le-leb n most l)

pub neither_true : (a b : Bool) → a || b ≡ false → (a ≡ false) × (b ≡ false)
neither_true true true e = (e, e)
neither_true true false e = (e, refl)
neither_true false b e = (refl, e)

pub either_true : (a b : Bool) → a || b ≡ true → (a ≡ true) ⊎ (b ≡ true)
either_true true b e = inl refl
either_true false b e = inr e

pub true_either : (a b : Bool) → (a ≡ true) ⊎ (b ≡ true) → a || b ≡ true
true_either true b e = refl
true_either false b (inl e) = absurd (let z : ◌≡◌ {A = ℕ} 0 1 = cc in omega arith)
true_either false b (inr e) = e

pub same_leb : (a b m n : ℕ) → (a ≤ b → m ≤ n) → (m ≤ n → a ≤ b) → leb a b ≡ leb m n
same_leb a b m n forth back =
    ⊎_elim
    (λ e.
    let h : m ≤ n = omega arith in
    le-leb a b (back h) ∙ sym (le-leb m n h))
    (λ pos.
    let h : n < m = omega arith in
    lt-leb a b (lt_of_not-le (λ k. not-le_of_lt h (forth k))) ∙ sym (lt-leb m n h))
    (eq-zero-or-pos (m - n))

-- two numbers to which the same was added pass a test just where they did before
pub same_ltb : (d a b : ℕ) → ltb (a + d) (b + d) ≡ ltb a b
same_ltb d a b = same_leb (suc (a + d)) (b + d) (suc a) b (λ h. omega arith) (λ h. omega arith)

pub same_eqb : (d a b : ℕ) → eqb (a + d) (b + d) ≡ eqb a b
same_eqb d a b = by_test (eqb a b) refl
  where
    by_test : (t : Bool) → eqb a b ≡ t → eqb (a + d) (b + d) ≡ eqb a b
    by_test true e = eq-eqb (a + d) (b + d) (ap (λ (x : ℕ). x + d) (eqb-true a b e)) ∙ sym e
    by_test false e = ne_eqb (a + d) (b + d) (λ same. eqb-false a b e (omega arith)) ∙ sym e

-- what holds of each of two numbers where it is picked holds of the picked one
pub at_cond : {A : Type 0} (P : A → Type 0) (b : Bool) (x y : A) → (b ≡ true → P x) → (b ≡ false → P y) → P (cond b x y)
at_cond P true x y p q = p refl
at_cond P false x y p q = q refl

-- what holds between two values, and between two others, holds between those that one test picks
pub cond_both : {A : Type 0} (R : A → A → Type 0) (b : Bool) (w x y z : A) → R w y → R x z → R (cond b w x) (cond b y z)
cond_both R true w x y z p q = p
cond_both R false w x y z p q = q
