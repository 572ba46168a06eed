-- Which weight a tranche has by each approach, and what it depends on in a re-securitisation and under SEC-IRBA; what a deal without an STC mark has; that the parameter is one for
-- which the formula is computed; that no weight is above 125,000 (1250%), neither the formula's raw weight, nor the table's, nor either after floor and cap; that
-- floor and cap keep the order of weights; how far the two ends of a weight lie apart; and where a tranche of no thickness lies. No axioms.
use mathlib.Core.Bool.{Bool, true, false, cond}
use mathlib.Core.List.{List, ◌∷◌, map}
use mathlib.Core.Logic.{⊎_elim}
use mathlib.Core.Path.{◌≡◌, refl, sym, ◌∙◌}
use Prim.Native.Nat.{ℕ, ◌+◌, ◌-◌, ◌≤◌, ◌<◌}
use native.Mathlib.Nat.{eq-zero-or-pos, le_refl}
use native.Mathlib.Omega.{arith}
use lib.Dec.{ltb, eqb}
use borrow.Author.Tests.{ltb-false, eqb-true, eq-eqb, ne_eqb}
use Rattle.numbers.proofs.Tests.{at_cond, cond_both, either_true}
use Rattle.numbers.specs.BothEnds.{both, at_both, EndsWithin}
use Rattle.numbers.specs.declared.Ends.{Ends}
use Rattle.formula.specs.Formula.{WithinLimits}
use Rattle.formula.specs.FixedPoint.{formula_weight, within_limits, raw_weight}
use Rattle.formula.proofs.RawWeightLaw.{formula_at_most, formula_within, under_formula, raw_weight_is}
use Rattle.formula.proofs.Limits.{limits_of_test}
use Rattle.irba.specs.Parameter.{parameter as irba_parameter}
use Rattle.irba.specs.declared.IrbFigures.{IrbFigures}
use Rattle.irba.proofs.ParameterLimits.{parameter_least, parameter_most}
use Rattle.ratings.specs.RatingTable.{maturity_fifths, ordinary_figures, figures_of, pick, ends_by_ratings}
use Rattle.ratings.proofs.PickLaws.{pick_of_rising}
use Rattle.ratings.proofs.TableLaws.{figures_at_most_lem, weight_by_ratings_at_most, ends_within}
use Rattle.weights.specs.ApproachFloorCap.{approach, formula_approach, by_formula, parameter, floor, cap_applies, after_floor_and_cap, weight_or_highest, formula_raw_weight, table_weight, weight, WeightByFormula, thin}
use Rattle.weights.specs.declared.Terms.{Terms}
use Rattle.weights.specs.declared.Tranche.{Tranche}

-- ---- the weight by each approach

pub fallback_weight : (t : Tranche) (d : Terms) → approach t d ≡ 0 → weight t d ≡ both 125000
unfolding weight
fallback_weight t d by = simp by

pub table_weighs : (t : Tranche) (d : Terms) → approach t d ≡ 1 → weight t d ≡ at_both (after_floor_and_cap t d) (table_weight t d)
unfolding weight
table_weighs t d by = simp by

-- an approach that weighs by the formula is not the fallback
not_fallback : (by : ℕ) → formula_approach by ≡ true → eqb by 0 ≡ false
not_fallback by e =
    ⊎_elim
    (λ two. let sec_sa = eqb-true by 2 two in ne_eqb by 0 (λ zero. omega arith))
    (λ three. let sec_irba = eqb-true by 3 three in ne_eqb by 0 (λ zero. omega arith))
    (either_true (eqb by 2) (eqb by 3) e)

pub formula_weight_lem : (t : Tranche) (d : Terms) → by_formula t d ≡ true → weight t d ≡ at_both (after_floor_and_cap t d) (formula_raw_weight t d)
unfolding weight
formula_weight_lem t d by = simp (not_fallback (approach t d) by, by)

pub weight_by_formula : (t : Tranche) (d : Terms) {w : Ends} → w ≡ weight t d → by_formula t d ≡ true → WeightByFormula t d w
unfolding formula_raw_weight
weight_by_formula t d e by =
    let p = parameter t d in
    record {
      raw = raw_weight t.attachment t.detachment d.charge p;
      is_raw = raw_weight_is t.attachment t.detachment d.charge p;
      weight_is = e ∙ formula_weight_lem t d by;
    }

-- "Ratings in a re-securitisation are checked and not used.": two tranches of the same points, both senior or neither, have the same approach and
-- weight
pub ratings_not_used :
    (t t' : Tranche) (d : Terms) → d.resecuritisation ≡ true → t'.attachment ≡ t.attachment → t'.detachment ≡ t.detachment →
    t'.senior ≡ t.senior → (approach t' d ≡ approach t d) × (weight t' d ≡ weight t d)
unfolding weight formula_raw_weight
ratings_not_used t t' d r same-attachment same-detachment same-senior = (simp r, by_diligence d.diligence refl)
  where
    by_diligence : (b : Bool) → d.diligence ≡ b → weight t' d ≡ weight t d
    by_diligence true e = simp (r, e, same-attachment, same-detachment, same-senior)
    by_diligence false e = simp (r, e)

-- ---- the STC mark

-- a deal without it has the parameter, the floor and the table weight of 01
pub unmarked_parameter : (t : Tranche) (d : Terms) → d.irba ≡ false → d.stc ≡ false → parameter t d ≡ cond d.resecuritisation 1500000 1000000
unmarked_parameter t d not_irba e = simp (not_irba, e)

pub unmarked_floor : (t : Tranche) (d : Terms) → d.stc ≡ false → floor t d ≡ cond d.resecuritisation 10000 1500
unmarked_floor t d e = simp e

pub unmarked_table_weight :
    (t : Tranche) (d : Terms) → d.stc ≡ false →
    table_weight t d ≡
    ends_by_ratings ordinary_figures t.ratings.first t.ratings.second t.ratings.third t.senior t.months (t.detachment - t.attachment)
unfolding table_weight
unmarked_table_weight t d e = simp e

-- a re-securitisation takes nothing from it: the parameter and the floor are those of re-securitisations, and its ratings are not used
pub resecuritisation_first :
    (t : Tranche) (d : Terms) → d.resecuritisation ≡ true → (parameter t d ≡ 1500000) × (floor t d ≡ 10000)
resecuritisation_first t d e = (simp e, simp e)

-- ---- SEC-IRBA

-- where it applies to an ordinary deal, due diligence being held, every tranche is under it, whatever its ratings and the status of the pool's rows, with its own parameter
pub irba_approach : (t : Tranche) (d : Terms) → d.diligence ≡ true → d.resecuritisation ≡ false → d.irba ≡ true → approach t d ≡ 3
irba_approach t d held ordinary by = rw (held, ordinary, by)

pub irba_parameter_is :
    (t : Tranche) (d : Terms) → d.resecuritisation ≡ false → d.irba ≡ true →
    parameter t d ≡ irba_parameter t.senior d.stc d.charge (maturity_fifths t.months) d.irb
irba_parameter_is t d ordinary by = rw (ordinary, by)

-- S-5: "ratings ... play no part": two tranches of the same points and months, both senior or neither, have the same approach and weight
pub ratings_not_used_by_irba :
    (t t' : Tranche) (d : Terms) → d.irba ≡ true → t'.attachment ≡ t.attachment → t'.detachment ≡ t.detachment →
    t'.senior ≡ t.senior → t'.months ≡ t.months → (approach t' d ≡ approach t d) × (weight t' d ≡ weight t d)
unfolding weight formula_raw_weight
ratings_not_used_by_irba t t' d by same-attachment same-detachment same-senior same_months =
    (simp by, by_terms d.diligence refl d.resecuritisation refl)
  where
    by_terms : (held : Bool) → d.diligence ≡ held → (resecuritised : Bool) → d.resecuritisation ≡ resecuritised → weight t' d ≡ weight t d
    by_terms false e resecuritised r = simp e
    by_terms true e true r = simp (e, r, same-attachment, same-detachment, same-senior)
    by_terms true e false r = rw (same-attachment, same-detachment, same-senior, same_months, by, e, r)

-- the figures of the IRB section are read under it alone
abbrev pub with_figures : Terms → IrbFigures → Terms
with_figures d f = record {
  diligence = d.diligence;
  resecuritisation = d.resecuritisation;
  stc = d.stc;
  composition = d.composition;
  irba = d.irba;
  known = d.known;
  charge = d.charge;
  average = d.average;
  irb = f;
}

pub figures_unread : (t : Tranche) (d : Terms) (f : IrbFigures) → d.irba ≡ false → weight t (with_figures d f) ≡ weight t d
unfolding weight formula_raw_weight table_weight
figures_unread t d f by = rw by

-- ---- the supervisory parameter

-- it is among those of `WithinLimits` (Formula.antt of `formula`)
pub parameter_within : (t : Tranche) (d : Terms) → (300000 ≤ parameter t d) × (parameter t d < 5000000)
parameter_within t d =
    at_cond (λ p. (300000 ≤ p) × (p < 5000000)) d.resecuritisation _ _
    (λ _. (omega arith, omega arith))
    (λ _.
    at_cond (λ p. (300000 ≤ p) × (p < 5000000)) d.irba _ _
    (λ _. (
      parameter_least t.senior d.stc d.charge (maturity_fifths t.months) d.irb,
      parameter_most t.senior d.stc d.charge (maturity_fifths t.months) d.irb,
    ))
    (λ _.
    at_cond (λ p. (300000 ≤ p) × (p < 5000000)) d.stc _ _
    (λ _. (omega arith, omega arith))
    (λ _. (omega arith, omega arith))))

-- ---- what both numbers of every raw weight have

-- a property of the ends 125,000 and 0 and of the formula's own, by the cases of IsRawWeight
module _ (P : Ends → Type 0) (highest : P (both 125000)) (lowest : P (both 0)) (A D K p : ℕ)
    (formula : WithinLimits A D K p → K < D → 1 ≤ K → A < D → P (formula_weight A D K p)) where
  above_has : WithinLimits A D K p → K < D → 1 ≤ K → P (weight_or_highest (raw_weight A D K p))
  above_has l above one =
      ⊎_elim
      (λ e. rw ((raw_weight_is A D K p).no_thickness l above one (omega arith)) highest)
      (λ thick. let t : A < D = omega arith in rw (under_formula A D K p l above one t) (formula l above one t))
      (eq-zero-or-pos (D - A))

  charged_has : WithinLimits A D K p → K < D → P (weight_or_highest (raw_weight A D K p))
  charged_has l above =
      ⊎_elim
      (λ e. rw ((raw_weight_is A D K p).charge_zero l above e) lowest)
      (λ one. above_has l above one)
      (eq-zero-or-pos K)

  within_has : WithinLimits A D K p → P (weight_or_highest (raw_weight A D K p))
  within_has l =
      ⊎_elim
      (λ e. rw ((raw_weight_is A D K p).within_charge l (omega arith)) highest)
      (λ above. charged_has l (omega arith))
      (eq-zero-or-pos (D - K))

  raw_weight_has : (t : Bool) → within_limits A D K p ≡ t → P (weight_or_highest (raw_weight A D K p))
  unfolding raw_weight
  raw_weight_has true e = within_has (limits_of_test A D K p e)
  raw_weight_has false e = rw e highest

formula_raw_weight_has :
    (P : Ends → Type 0) → P (both 125000) → P (both 0) →
    ((A D K p : ℕ) → 1 ≤ K → 0 < p → K < D → A < D → P (formula_weight A D K p)) →
    (t : Tranche) (d : Terms) → P (formula_raw_weight t d)
unfolding formula_raw_weight
formula_raw_weight_has P highest lowest formula t d =
    let p = parameter t d in
    raw_weight_has P highest lowest t.attachment t.detachment d.charge p
    (λ l above one thick. formula t.attachment t.detachment d.charge p one (omega (arith, l.parameter_least)) above thick)
    (within_limits t.attachment t.detachment d.charge p) refl

-- ---- no weight is above 125,000

pub raw_weight_at_most : (t : Tranche) (d : Terms) → (formula_raw_weight t d).high ≤ 125000
raw_weight_at_most = formula_raw_weight_has (λ (e : Ends). e.high ≤ 125000) (le_refl 125000) (omega arith) formula_at_most

pub table_weight_at_most : (t : Tranche) (d : Terms) → (table_weight t d).high ≤ 125000
unfolding table_weight
table_weight_at_most t d =
    weight_by_ratings_at_most (figures_of d.stc) (figures_at_most_lem d.stc)
    t.ratings.first t.ratings.second t.ratings.third t.senior t.months (t.detachment - t.attachment)

floor_at_most : (t : Tranche) (d : Terms) → floor t d ≤ 125000
floor_at_most t d =
    at_cond (λ x. x ≤ 125000) d.resecuritisation _ _
    (λ _. omega arith)
    (λ _.
    at_cond (λ x. x ≤ 125000) d.stc _ _
    (λ _. at_cond (λ x. x ≤ 125000) t.senior _ _ (λ _. omega arith) (λ _. omega arith))
    (λ _. omega arith))

pub after_floor_and_cap_at_most : (t : Tranche) (d : Terms) (w : ℕ) → w ≤ 125000 → after_floor_and_cap t d w ≤ 125000
after_floor_and_cap_at_most t d w h =
    at_cond (λ x. x ≤ 125000) (cap_applies t d) _ _
    (λ _. omega (arith, floor_at_most t d))
    (λ _. omega (arith, floor_at_most t d))

pub weight_at_most : (t : Tranche) (d : Terms) → (weight t d).high ≤ 125000
unfolding weight
weight_at_most t d =
    at_cond (λ (e : Ends). e.high ≤ 125000) (eqb (approach t d) 0) _ _
    (λ _. le_refl 125000)
    (λ _.
    at_cond (λ (e : Ends). e.high ≤ 125000) (by_formula t d) _ _
    (λ _. after_floor_and_cap_at_most t d (formula_raw_weight t d).high (raw_weight_at_most t d))
    (λ _. after_floor_and_cap_at_most t d (table_weight t d).high (table_weight_at_most t d)))

-- ---- floor and cap keep the order of weights

-- they take no two weights further apart,
after_floor_and_cap_near :
    (t : Tranche) (d : Terms) (n low high : ℕ) → high ≤ low + n → after_floor_and_cap t d high ≤ after_floor_and_cap t d low + n
after_floor_and_cap_near t d n low high h = cond_both (λ (w v : ℕ). w ≤ v + n) (cap_applies t d) _ _ _ _ (omega arith) (omega arith)

-- so the lower of two is not above the other after them
pub after_floor_and_cap_rising :
    (t : Tranche) (d : Terms) (w v : ℕ) → w ≤ v → after_floor_and_cap t d w ≤ after_floor_and_cap t d v
after_floor_and_cap_rising t d w v h = omega (arith, after_floor_and_cap_near t d 0 v w (omega arith))

-- so it is the same whether the weight that counts is picked before floor and cap or after them
pub pick_then_floor_and_cap :
    (t : Tranche) (d : Terms) (w : ℕ) (others : List ℕ) →
    pick (map (after_floor_and_cap t d) (w ∷ others)) ≡ after_floor_and_cap t d (pick (w ∷ others))
pick_then_floor_and_cap t d = pick_of_rising (after_floor_and_cap t d) (after_floor_and_cap_rising t d)

-- ---- both ends (02, S-6)

-- equal ends are within any distance
both_within : (distance n : ℕ) → EndsWithin distance (both n)
both_within distance n = record { ordered = omega arith; near = omega arith }

-- before floor and cap they are at most 2 apart under the formula, of the one function that computes both,
pub formula_ends_within : (t : Tranche) (d : Terms) → EndsWithin 2 (formula_raw_weight t d)
formula_ends_within = formula_raw_weight_has (EndsWithin 2) (both_within 2 125000) (both_within 2 0) formula_within

-- and at most 1 by the table
pub table_ends_within : (t : Tranche) (d : Terms) → EndsWithin 1 (table_weight t d)
unfolding table_weight
table_ends_within t d =
    ends_within (figures_of d.stc) t.senior t.months (t.detachment - t.attachment) t.ratings.first t.ratings.second t.ratings.third

-- floor and cap take them no further apart
pub after_floor_and_cap_within :
    (t : Tranche) (d : Terms) (n : ℕ) (e : Ends) → EndsWithin n e → EndsWithin n (at_both (after_floor_and_cap t d) e)
after_floor_and_cap_within t d n e h = record {
  ordered = after_floor_and_cap_rising t d e.low e.high h.ordered;
  near = after_floor_and_cap_near t d n e.low e.high h.near;
}

-- so the low end of a weight is never above the weight, and at most 2 below it
pub weight_within : (t : Tranche) (d : Terms) → EndsWithin 2 (weight t d)
unfolding weight
weight_within t d =
    at_cond (EndsWithin 2) (eqb (approach t d) 0) _ _
    (λ _. both_within 2 125000)
    (λ _.
    at_cond (EndsWithin 2) (by_formula t d) _ _
    (λ _. after_floor_and_cap_within t d 2 (formula_raw_weight t d) (formula_ends_within t d))
    (λ _. let table = after_floor_and_cap_within t d 1 (table_weight t d) (table_ends_within t d) in
    record { ordered = table.ordered; near = omega (arith, table.near) }))

-- by the table at most 1
pub table_weight_within : (t : Tranche) (d : Terms) → approach t d ≡ 1 → EndsWithin 1 (weight t d)
table_weight_within t d by = rw (table_weighs t d by) (after_floor_and_cap_within t d 1 (table_weight t d) (table_ends_within t d))

-- ---- thickness

-- under the formula a tranche of no thickness is too thin where it is above the pool charge
pub thin_above_charge :
    (t : Tranche) (d : Terms) → by_formula t d ≡ true → t.attachment ≡ t.detachment → thin t d ≡ ltb d.charge t.detachment
unfolding thin
thin_above_charge t d by same = simp (by, eq-eqb t.attachment t.detachment same)

-- one that is not weighed by the formula is never too thin
pub not_thin_otherwise : (t : Tranche) (d : Terms) → by_formula t d ≡ false → thin t d ≡ false
unfolding thin
not_thin_otherwise t d e = rw e

-- so a tranche under the formula of no thickness that is not too thin is not above the charge
pub thick_where :
    (t : Tranche) (d : Terms) → by_formula t d ≡ true → t.attachment ≡ t.detachment → thin t d ≡ false → t.detachment ≤ d.charge
thick_where t d by same e = ltb-false d.charge t.detachment (sym (thin_above_charge t d by same) ∙ e)
