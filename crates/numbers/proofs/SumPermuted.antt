-- The order of a sum's terms does not matter. No axioms.
use mathlib.Core.Bool.{cond}
use mathlib.Core.Logic.{⊎_elim}
use mathlib.Core.Path.{◌≡◌, refl, ap, sym, ◌∙◌}
use Prim.Native.Nat.{ℕ, zero, suc, ◌+◌, ◌<◌}
use native.Mathlib.Nat.{eq-or-lt_of_le, le_of_suc-le-suc, le_step, lt-suc_self}
use native.Mathlib.Omega.{arith}
use lib.Dec.{eqb}
use borrow.Author.Tests.{eqb-true, eqb-false, eq-eqb, ne_eqb}
use Rattle.numbers.proofs.Tests.{at_cond}
use Rattle.numbers.specs.Sum.{sum}
use Rattle.numbers.specs.Permutation.{Permutation}
use Rattle.numbers.proofs.SumLaws.{sum_same, sum_replaced}

-- π with the last place taken out: what went to n goes to where n went
abbrev without : (ℕ → ℕ) → ℕ → ℕ → ℕ
without π n i = cond (eqb (π i) n) (π n) (π i)

-- two places that go to the same place are the same
one_to_one : (n : ℕ) (π σ : ℕ → ℕ) → Permutation n π σ → (i j : ℕ) → i < n → j < n → π i ≡ π j → i ≡ j
one_to_one n π σ p i j l m e = sym (p.back_forth i l) ∙ ap σ e ∙ p.back_forth j m

without_below : (n : ℕ) (π σ : ℕ → ℕ) → Permutation (suc n) π σ → (i : ℕ) → i < n → without π n i < n
without_below n π σ p i l =
    at_cond (λ m. m < n) (eqb (π i) n) (π n) (π i)
    (λ e. omega (arith, p.forth n (lt-suc_self n), apart (eqb-true (π i) n e)))
    (λ e. omega (arith, p.forth i (le_step l), eqb-false (π i) n e))
  where
    apart : π i ≡ n → π n ≡ n → ⊥
    apart e same =
        let met : n ≡ i = one_to_one (suc n) π σ p n i (lt-suc_self n) (le_step l) (same ∙ sym e) in
        omega arith

without_back : (n : ℕ) (π σ : ℕ → ℕ) → Permutation (suc n) π σ → (i : ℕ) → i < n → without σ n (without π n i) ≡ i
without_back n π σ p i l =
    at_cond (λ m. without σ n m ≡ i) (eqb (π i) n) (π n) (π i)
    (λ e.
    let home : σ (π n) ≡ n = p.back_forth n (lt-suc_self n) in
    rw (eq-eqb (σ (π n)) n home) (ap σ (sym (eqb-true (π i) n e)) ∙ p.back_forth i (le_step l)))
    (λ e.
    let home : σ (π i) ≡ i = p.back_forth i (le_step l) in
    rw (home, ne_eqb i n (λ same. omega arith)))

inverse : {n : ℕ} {π σ : ℕ → ℕ} → Permutation n π σ → Permutation n σ π
inverse p = record {
  forth = p.back;
  back = p.forth;
  back_forth = p.forth_back;
  forth_back = p.back_forth;
}

without_permutes : (n : ℕ) (π σ : ℕ → ℕ) → Permutation (suc n) π σ → Permutation n (without π n) (without σ n)
without_permutes n π σ p = record {
  forth = without_below n π σ p;
  back = without_below n σ π (inverse p);
  back_forth = without_back n π σ p;
  forth_back = without_back n σ π (inverse p);
}

pub sum_permuted : (f : ℕ → ℕ) (n : ℕ) (π σ : ℕ → ℕ) → Permutation n π σ → sum (λ i. f (π i)) n ≡ sum f n
unfolding sum
sum_permuted f zero π σ p = refl
sum_permuted f (suc n) π σ p =
    let shorter : sum (λ i. f (without π n i)) n ≡ sum f n = sum_permuted f n (without π n) (without σ n) (without_permutes n π σ p) in
    ⊎_elim
    (λ e.
    let last : π n ≡ n = ap π (sym e) ∙ home in
    let others : sum (λ i. f (π i)) n ≡ sum (λ i. f (without π n i)) n
    = sum_same (λ i. f (π i)) (λ i. f (without π n i)) n (λ i l. kept i (le_step l) (λ same. omega arith)) in
    rw last (omega arith))
    (λ l.
    let moved : f (without π n (σ n)) ≡ f (π n) = rw (home, eq-eqb n n refl) in
    let replaced : sum (λ i. f (π i)) n + f (without π n (σ n)) ≡ sum (λ i. f (without π n i)) n + f (π (σ n))
    = sum_replaced (λ i. f (π i)) (λ i. f (without π n i)) (σ n) n l (λ i below. kept i (le_step below)) in
    omega (arith, ap f home))
    (eq-or-lt_of_le (le_of_suc-le-suc (p.back n (lt-suc_self n))))
  where
    home : π (σ n) ≡ n
    home = p.forth_back n (lt-suc_self n)

    kept : (i : ℕ) → i < suc n → (i ≡ σ n → ⊥) → f (π i) ≡ f (without π n i)
    kept i l apart = rw (ne_eqb (π i) n (λ same. apart (sym (p.back_forth i l) ∙ ap σ same)))
