-- Approach 3: to which deals it applies, which charge and average they have and which the others, that its parameter is read of the sheet, and what it is: of no
-- accepted sheet under it are the figures outside the limits of the parameter. No axioms.
use mathlib.Core.Bool.{Bool, true, false, not, ◌&&◌}
use mathlib.Core.List.{List}
use mathlib.Core.Path.{◌≡◌, refl, sym, ◌∙◌}
use Prim.Native.Nat.{ℕ, ◌≤◌, ◌<◌}
use native.Mathlib.Omega.{arith}
use lib.Dec.{eqb}
use borrow.Author.Tests.{not-true, ne_eqb, lt-leb, le-leb, eqb-true}
use Rattle.numbers.proofs.Tests.{true_not_false, both_true, within_is}
use Rattle.irba.specs.IrbaDeals.{covers_pool, irba_applies}
use Rattle.irba.specs.Parameter.{within_limits, parameter as parameter_by_irba}
use Rattle.irba.specs.ParameterMeans.{IsParameter}
use Rattle.irba.specs.declared.IrbFigures.{IrbFigures}
use Rattle.irba.proofs.ParameterMeansLaw.{parameter_means}
use Rattle.ratings.specs.RatingTable.{maturity_fifths}
use Rattle.charge.specs.PoolCharge.{pool_charge, mixed_charge, pool_average}
use Rattle.judgement.specs.DealSheet.{class, months, stc, pool_kind, resecuritisation, due_diligence, has_irb, irb_figures, needed, layout}
use Rattle.judgement.specs.Refusals.{judged}
use Rattle.judgement.specs.Verdicts.{Sound}
use Rattle.judgement.proofs.SheetLimits.{irb_loans_within}
use Rattle.pool.specs.PoolSums.{pool_sums}
use Rattle.weights.specs.ApproachFloorCap.{approach, parameter}
use Rattle.weights.proofs.WeightLaws.{irba_approach, irba_parameter_is}
use Rattle.deal.specs.Lines.{terms, tranche}
use Rattle.deal.proofs.InferredLaws.{keeps_its_own}
use Rattle.deal.proofs.TermsLaws.{charge_at_most_million}

-- ---- approach 3 does not apply to an SA pool, nor to a mixed one with a small share

never : (held resecuritised : Bool) → held && not resecuritised && false ≡ false
never true true = refl
never true false = refl
never false resecuritised = refl

pub sa_pool_not_irba : (held resecuritised : Bool) (kind share : ℕ) → kind ≡ 0 → irba_applies held resecuritised kind share ≡ false
sa_pool_not_irba held resecuritised kind share is = rw is (never held resecuritised)

small_share :
    (held resecuritised : Bool) (kind share : ℕ) → (kind ≡ 1 → ⊥) → share < 950000 → irba_applies held resecuritised kind share ≡ false
small_share held resecuritised kind share other below =
    rw (ne_eqb kind 1 other, lt-leb 950000 share below) (by_kind (eqb kind 2))
  where
    by_kind : (mixed : Bool) → held && not resecuritised && (mixed && false) ≡ false
    by_kind true = never held resecuritised
    by_kind false = never held resecuritised

-- "Kind 2 below 950,000 goes on as an SA pool.": approach 3 does not apply
pub mixed_below : (s : List ℕ) → pool_kind s ≡ 2 → (irb_figures s).share < 950000 → (terms s).irba ≡ false
unfolding terms layout
mixed_below s kind below =
    small_share (due_diligence s) (resecuritisation s) (pool_kind s) (irb_figures s).share (λ one. omega arith) below

-- ---- "The answer's charge is this one under approach 3, else 01's"; "the IRB average takes the place of the pool average in the cap"

pub irba_charge :
    (s : List ℕ) → (terms s).irba ≡ true →
    ((terms s).charge ≡ mixed_charge (irb_figures s) (pool_sums s).all) × ((terms s).average ≡ (irb_figures s).average)
unfolding terms layout
irba_charge s by = (rw by, rw by)

pub other_charge :
    (s : List ℕ) → (terms s).irba ≡ false → ((terms s).charge ≡ pool_charge (pool_sums s)) × ((terms s).average ≡ pool_average (pool_sums s))
unfolding terms layout
other_charge s by = (rw by, rw by)

-- "given due diligence and an ordinary deal, approach 3"
pub irba_ordinary : (s : List ℕ) → (terms s).irba ≡ true → ((terms s).diligence ≡ true) × ((terms s).resecuritisation ≡ false)
unfolding terms layout
irba_ordinary s by =
    let pool = both_true (due_diligence s && not (resecuritisation s)) (covers_pool (pool_kind s) (irb_figures s).share) by in
    let deal = both_true (due_diligence s) (not (resecuritisation s)) pool.0 in
    (deal.0, not-true (resecuritisation s) deal.1)

-- and then every tranche is under it: "ratings and late payers play no part"
pub irba_for_all : (s : List ℕ) (i : ℕ) → (terms s).irba ≡ true → approach (tranche s i) (terms s) ≡ 3
irba_for_all s i by = irba_approach (tranche s i) (terms s) (irba_ordinary s by).0 (irba_ordinary s by).1 by

-- it applies to no sheet without the section
pub irba_has_section : (s : List ℕ) → (terms s).irba ≡ true → has_irb s ≡ true
unfolding terms layout
irba_has_section s by = by_kind (eqb (pool_kind s) 0) refl
  where
    by_kind : (none : Bool) → eqb (pool_kind s) 0 ≡ none → has_irb s ≡ true
    by_kind true is =
        absurd
        (true_not_false
        (sym by ∙ sa_pool_not_irba (due_diligence s) (resecuritisation s) (pool_kind s) (irb_figures s).share (eqb-true (pool_kind s) 0 is)))
    by_kind false is = rw is

-- ---- the parameter

-- "the exact value read[s] this charge and parameter"
abbrev pub irba_parameter_of : List ℕ → ℕ → ℕ
irba_parameter_of s i = parameter_by_irba (eqb (class s i) 1) (stc s) (terms s).charge (maturity_fifths (months s i)) (irb_figures s)

read_parameter :
    (s : List ℕ) (i : ℕ) →
    parameter_by_irba (tranche s i).senior (terms s).stc (terms s).charge (maturity_fifths (tranche s i).months) (terms s).irb ≡ irba_parameter_of s i
unfolding terms layout
read_parameter s i = rw ((keeps_its_own s i).own_class, (keeps_its_own s i).own_months)

pub irba_parameter : (s : List ℕ) (i : ℕ) → (terms s).irba ≡ true → parameter (tranche s i) (terms s) ≡ irba_parameter_of s i
irba_parameter s i by = irba_parameter_is (tranche s i) (terms s) (irba_ordinary s by).1 by ∙ read_parameter s i

fifths_most : (n : ℕ) → maturity_fifths n ≤ 300
fifths_most n = omega arith

inside_limits :
    (charge fifths : ℕ) (f : IrbFigures) → charge ≤ 1000000 → fifths ≤ 300 → f.loss ≤ 1000000 → 1 ≤ f.loans → f.loans ≤ 1000000 →
    within_limits charge fifths f ≡ true
inside_limits charge fifths f k m l least most =
    simp (le-leb charge 1000000 k, le-leb fifths 300 m, le-leb f.loss 1000000 l, within_is 1 1000000 f.loans least most)

-- it is the least whole number of millionths that is at least 0.3 and no lower than the sum
pub irba_parameter_means :
    (s : List ℕ) (i : ℕ) → judged s (needed s) ≡ Sound → (terms s).irba ≡ true →
    IsParameter (eqb (class s i) 1) (stc s) (terms s).charge (maturity_fifths (months s i)) (irb_figures s) (irba_parameter_of s i)
irba_parameter_means s i accepted by =
    let loans = irb_loans_within s accepted (irba_has_section s by) in
    parameter_means (eqb (class s i) 1) (stc s) (terms s).charge (maturity_fifths (months s i)) (irb_figures s)
    (inside_limits (terms s).charge (maturity_fifths (months s i)) (irb_figures s) (charge_at_most_million s accepted) (fifths_most (months s i))
    loans.0 loans.1.0 loans.1.1)
