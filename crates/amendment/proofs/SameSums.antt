-- Totals and sums are the same where each number of them is. No axioms.
use mathlib.Core.Bool.{Bool, true, false, true≢false, ◌&&◌}
use mathlib.Core.Path.{◌≡◌, refl, sym, ap, ◌∙◌}
use Prim.Native.Nat.{ℕ}
use lib.Dec.{eqb}
use borrow.Author.Tests.{eqb-true, eq-eqb}
use Rattle.numbers.proofs.Tests.{both_true}
use Rattle.charge.specs.declared.Sums.{Sums}
use Rattle.charge.specs.declared.Totals.{Totals}
use Rattle.amendment.specs.OpenedPool.{Tells}

abbrev totals_of : ℕ → ℕ → ℕ → Totals
totals_of e n w = record { exposure = e; nominal = n; weighted = w }

abbrev sums_of : Totals → Totals → ℕ → Sums
sums_of a k l = record { all = a; known = k; late = l }

pub same_totals : (t u : Totals) → t.exposure ≡ u.exposure → t.nominal ≡ u.nominal → t.weighted ≡ u.weighted → t ≡ u
same_totals t u e n w =
    ap (λ (x : ℕ). totals_of x t.nominal t.weighted) e ∙
    ap (λ (x : ℕ). totals_of u.exposure x t.weighted) n ∙
    ap (λ (x : ℕ). totals_of u.exposure u.nominal x) w

pub same_sums : (p q : Sums) → p.all ≡ q.all → p.known ≡ q.known → p.late ≡ q.late → p ≡ q
same_sums p q a k l =
    ap (λ (x : Totals). sums_of x p.known p.late) a ∙
    ap (λ (x : Totals). sums_of q.all x p.late) k ∙
    ap (λ (x : ℕ). sums_of q.all q.known x) l

-- ---- what tells that they are

pub tells_no : {A : Type 0} → (A → ⊥) → Tells false A
tells_no h = record { yes = λ e. absurd (true≢false (sym e)); no = λ e. h }

-- by the test of each number

abbrev totals_test : Totals → Totals → Bool
totals_test t u = eqb t.exposure u.exposure && (eqb t.nominal u.nominal && eqb t.weighted u.weighted)

abbrev sums_test : Sums → Sums → Bool
sums_test p q = totals_test p.all q.all && (totals_test p.known q.known && eqb p.late q.late)

same_by_test : (t u : Totals) → totals_test t u ≡ true → u ≡ t
same_by_test t u e =
    let first = both_true (eqb t.exposure u.exposure) _ e in
    let rest = both_true (eqb t.nominal u.nominal) (eqb t.weighted u.weighted) first.1 in
    same_totals u t (sym (eqb-true _ _ first.0)) (sym (eqb-true _ _ rest.0)) (sym (eqb-true _ _ rest.1))

test_of_itself : (t : Totals) → totals_test t t ≡ true
test_of_itself t = simp (eq-eqb t.exposure t.exposure refl, eq-eqb t.nominal t.nominal refl, eq-eqb t.weighted t.weighted refl)

pub told_same : (p q : Sums) → Tells (sums_test p q) (q ≡ p)
told_same p q = record {
  yes = λ e.
      let all = both_true (totals_test p.all q.all) _ e in
      let rest = both_true (totals_test p.known q.known) (eqb p.late q.late) all.1 in
      same_sums q p (same_by_test p.all q.all all.0) (same_by_test p.known q.known rest.0) (sym (eqb-true _ _ rest.1));
  no = λ e same.
      let itself : sums_test p p ≡ true = simp (test_of_itself p.all, test_of_itself p.known, eq-eqb p.late p.late refl) in
      true≢false (sym itself ∙ rw same at e);
}
