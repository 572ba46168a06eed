-- Demand 3 and S-6's limits of the line of every accepted tranche under the formula, SEC-SA or SEC-IRBA, with K at least 1 and D above K, and the weight in the cases that 01 gives in closed form. No
-- accepted tranche is too thin for the formula, and its inputs are within the limits for which the formula is computed. No axioms.
use mathlib.Core.Bool.{true, false}
use mathlib.Core.List.{List}
use mathlib.Core.Logic.{⊎_elim}
use mathlib.Core.Path.{◌≡◌, sym, ◌∙◌, ap, subst}
use Prim.Native.Nat.{ℕ, ◌-◌, ◌≤◌, ◌<◌}
use native.Mathlib.Nat.{eq-zero-or-pos}
use native.Mathlib.Omega.{arith}
use lib.ListN.{length}
use Rattle.numbers.specs.BothEnds.{both, at_both}
use Rattle.numbers.specs.declared.Ends.{Ends}
use Rattle.series.specs.Ends.{Passes, PassesFromBelow}
use Rattle.formula.specs.Formula.{WithinLimits, RawWeightNumbers, weighing, PassingWeight, IsRawWeight}
use Rattle.formula.specs.FixedPoint.{raw_weight}
use Rattle.formula.proofs.RawWeightLaw.{raw_weight_is}
use Rattle.judgement.specs.DealSheet.{stc, tranche_count, needed, layout}
use Rattle.deal.specs.Points.{attachment_point, detachment_point}
use Rattle.weights.specs.ApproachFloorCap.{by_formula, parameter, after_floor_and_cap, weight_or_highest, formula_raw_weight, weight}
use Rattle.weights.specs.declared.Terms.{Terms}
use Rattle.weights.specs.declared.Tranche.{Tranche}
use Rattle.deal.specs.Lines.{terms, tranche, line, line_words}
use Rattle.deal.specs.DemandThree.{AboveCharge, raw_weight_of, DemandThree, KeepsDemandThree, SeventhWord, KeepsSeventhWord}
use Rattle.judgement.specs.Refusals.{judged}
use Rattle.judgement.proofs.SheetLimits.{stc_ordinary}
use Rattle.deal.specs.Refusals.{verdict}
use Rattle.deal.specs.Results.{results_after}
use Rattle.judgement.specs.Verdicts.{Sound}
use Rattle.deal.proofs.InferredLaws.{keeps_its_own}
use Rattle.deal.proofs.PointLaws.{attachment_at_most_detachment, detachment_at_most_million}
use Rattle.deal.proofs.TermsLaws.{charge_at_most_million}
use Rattle.deal.proofs.IrbaLaws.{irba_parameter_of, irba_parameter}
use Rattle.deal.proofs.JudgedLaws.{accepted_means, accepted_judged}
use Rattle.deal.proofs.LineLaws.{results_line}
use Rattle.weights.proofs.WeightLaws.{formula_weight_lem, thick_where, parameter_within}

-- ---- no accepted tranche is too thin

-- where the formula applies and D is above the pool charge, A is below D
pub attachment_below_detachment :
    (s : List ℕ) (room i : ℕ) → verdict s room ≡ Sound → i < tranche_count s → by_formula (tranche s i) (terms s) ≡ true →
    (terms s).charge < detachment_point s i → attachment_point s i < detachment_point s i
attachment_below_detachment s room i accepted row by above =
    ⊎_elim
    (λ e.
    let own = keeps_its_own s i in
    let same : (tranche s i).attachment ≡ (tranche s i).detachment = omega (arith, own, attachment_at_most_detachment s i) in
    let low = thick_where (tranche s i) (terms s) by same ((accepted_means s room accepted).none_thin i row) in
    absurd (omega (arith, own)))
    (λ pos. omega arith)
    (eq-zero-or-pos (detachment_point s i - attachment_point s i))

-- ---- the raw weight of an accepted tranche

pub within_limits_lem :
    (s : List ℕ) (i : ℕ) → judged s (needed s) ≡ Sound →
    WithinLimits (attachment_point s i) (detachment_point s i) (terms s).charge (parameter (tranche s i) (terms s))
within_limits_lem s i e = record {
  attachment = omega (arith, attachment_at_most_detachment s i, detachment_at_most_million s i);
  detachment = detachment_at_most_million s i;
  charge = charge_at_most_million s e;
  parameter_least = (parameter_within (tranche s i) (terms s)).0;
  parameter_most = (parameter_within (tranche s i) (terms s)).1;
}

-- the formula's answer for a tranche of the sheet
abbrev pub formula_answer : List ℕ → ℕ → RawWeightNumbers
formula_answer s i = raw_weight (attachment_point s i) (detachment_point s i) (terms s).charge (parameter (tranche s i) (terms s))

raw_weight_ends : (s : List ℕ) (i : ℕ) (e : Ends) → formula_answer s i ≡ weighing e → formula_raw_weight (tranche s i) (terms s) ≡ e
unfolding formula_raw_weight tranche terms
raw_weight_ends s i e is = ap weight_or_highest is

-- where the formula applies and there is a raw weight, the weight is its two numbers after floor and cap
weighs_raw :
    (s : List ℕ) (i : ℕ) (e : Ends) → by_formula (tranche s i) (terms s) ≡ true → formula_answer s i ≡ weighing e →
    weight (tranche s i) (terms s) ≡ at_both (after_floor_and_cap (tranche s i) (terms s)) e
weighs_raw s i e by is =
    formula_weight_lem (tranche s i) (terms s) by ∙
    ap (at_both (after_floor_and_cap (tranche s i) (terms s))) (raw_weight_ends s i e is)

-- ---- an accepted tranche under the formula

module _ (s : List ℕ) (room i : ℕ) (accepted : verdict s room ≡ Sound) where
  limits : WithinLimits (attachment_point s i) (detachment_point s i) (terms s).charge (parameter (tranche s i) (terms s))
  limits = within_limits_lem s i (accepted_judged s room accepted)

  is_raw_weight : IsRawWeight (attachment_point s i) (detachment_point s i) (terms s).charge (parameter (tranche s i) (terms s)) (formula_answer s i)
  is_raw_weight = raw_weight_is (attachment_point s i) (detachment_point s i) (terms s).charge (parameter (tranche s i) (terms s))

  -- "the raw weight is 125,000 if D ≤ K"; S-6: "125,000 and 0 are given as they are."
  pub within_charge :
      by_formula (tranche s i) (terms s) ≡ true → detachment_point s i ≤ (terms s).charge →
      weight (tranche s i) (terms s) ≡ at_both (after_floor_and_cap (tranche s i) (terms s)) (both 125000)
  within_charge by h = weighs_raw s i (both 125000) by (is_raw_weight.within_charge limits h)

  -- "0 if K = 0"
  pub charge_zero :
      by_formula (tranche s i) (terms s) ≡ true → (terms s).charge ≡ 0 → 0 < detachment_point s i →
      weight (tranche s i) (terms s) ≡ at_both (after_floor_and_cap (tranche s i) (terms s)) (both 0)
  charge_zero by none h = weighs_raw s i (both 0) by (is_raw_weight.charge_zero limits (omega arith) none)

module _ (s : List ℕ) (room i : ℕ) (accepted : verdict s room ≡ Sound) (row : i < tranche_count s) (by : by_formula (tranche s i) (terms s) ≡ true) where
  passing :
      1 ≤ (terms s).charge → (terms s).charge < detachment_point s i →
      PassingWeight (attachment_point s i) (detachment_point s i) (terms s).charge (parameter (tranche s i) (terms s)) (formula_answer s i)
  passing one above =
      (is_raw_weight s room i accepted).formula (limits s room i accepted) above one
      (attachment_below_detachment s room i accepted row by above)

  -- There is a raw weight: an accepted tranche meets none of the cases that have none.
  pub formula_weighs : (e : Ends) × (formula_answer s i ≡ weighing e)
  formula_weighs =
      ⊎_elim
      (λ e. (both 125000, (is_raw_weight s room i accepted).within_charge (limits s room i accepted) (omega arith)))
      (λ above.
      ⊎_elim
      (λ none. (both 0, (is_raw_weight s room i accepted).charge_zero (limits s room i accepted) (omega arith) none))
      (λ one. let w = passing one (omega arith) in (w.weight, w.answered))
      (eq-zero-or-pos (terms s).charge))
      (eq-zero-or-pos (detachment_point s i - (terms s).charge))

-- Demand 3.
pub demand_three : (s old : List ℕ) (i : ℕ) → AboveCharge s (length old) i → DemandThree s (results_after s old) i
unfolding line_words line
demand_three s old i t =
    let w = passing s (length old) i t.accepted t.among t.under_formula t.charge_least t.above in
    let number = ap (λ (e : Ends). e.high) (raw_weight_ends s i w.weight w.answered) in
    record {
      line_weight =
          results_line s old i 3 t.accepted t.among (omega arith) ∙
          ap (λ (e : Ends). e.high) (formula_weight_lem (tranche s i) (terms s) t.under_formula);
      passes =
          subst
          (λ (x : ℕ). Passes (attachment_point s i) (detachment_point s i) (terms s).charge (parameter (tranche s i) (terms s)) x)
          (sym number) w.passes;
      at_most = subst (λ (x : ℕ). x ≤ 125000) (sym number) w.at_most;
    }

-- S-6: the limits of the seventh word.
pub seventh_word : (s old : List ℕ) (i : ℕ) → AboveCharge s (length old) i → SeventhWord s (results_after s old) i
unfolding line_words line
seventh_word s old i t =
    let w = passing s (length old) i t.accepted t.among t.under_formula t.charge_least t.above in
    record {
      line_low =
          results_line s old i 6 t.accepted t.among (omega arith) ∙
          ap (λ (e : Ends). e.low) (formula_weight_lem (tranche s i) (terms s) t.under_formula);
      passes_from_below =
          subst
          (λ (x : ℕ). PassesFromBelow (attachment_point s i) (detachment_point s i) (terms s).charge (parameter (tranche s i) (terms s)) x)
          (sym (ap (λ (e : Ends). e.low) (raw_weight_ends s i w.weight w.answered))) w.passes_from_below;
    }

-- of which parameter it speaks
with_parameter :
    (s old : List ℕ) (i p : ℕ) → parameter (tranche s i) (terms s) ≡ p → AboveCharge s (length old) i →
    Passes (attachment_point s i) (detachment_point s i) (terms s).charge p (raw_weight_of s i)
with_parameter s old i p is t =
    subst (λ (x : ℕ). Passes (attachment_point s i) (detachment_point s i) (terms s).charge x (raw_weight_of s i)) is (demand_three s old i t).passes

-- S-1 of 02: "The exact value is then taken with 0.5.", under SEC-SA
marked_parameter : (t : Tranche) (d : Terms) → d.resecuritisation ≡ false → d.irba ≡ false → d.stc ≡ true → parameter t d ≡ 500000
marked_parameter t d ordinary by marked = simp (ordinary, by, marked)

pub stc_parameter :
    (s : List ℕ) (i : ℕ) → judged s (needed s) ≡ Sound → (terms s).irba ≡ false → stc s ≡ true → parameter (tranche s i) (terms s) ≡ 500000
unfolding terms layout
stc_parameter s i sound by marked = marked_parameter (tranche s i) (terms s) (stc_ordinary s sound marked) by marked

pub stc_demand_three :
    (s old : List ℕ) (i : ℕ) → (terms s).irba ≡ false → stc s ≡ true → AboveCharge s (length old) i →
    Passes (attachment_point s i) (detachment_point s i) (terms s).charge 500000 (raw_weight_of s i)
stc_demand_three s old i by marked t =
    with_parameter s old i 500000 (stc_parameter s i (accepted_judged s (length old) t.accepted) by marked) t

-- S-5 of 02: "the exact value read[s] this charge and parameter"
pub irba_demand_three :
    (s old : List ℕ) (i : ℕ) → (terms s).irba ≡ true → AboveCharge s (length old) i →
    Passes (attachment_point s i) (detachment_point s i) (terms s).charge (irba_parameter_of s i) (raw_weight_of s i)
irba_demand_three s old i by t = with_parameter s old i (irba_parameter_of s i) (irba_parameter s i by) t

-- Whatever results a sheet is due keep it.
pub keeps_demand_three : (s old new : List ℕ) → new ≡ results_after s old → KeepsDemandThree s (length old) new
keeps_demand_three s old new e i t = subst (λ (x : List ℕ). DemandThree s x i) (sym e) (demand_three s old i t)

pub keeps_seventh_word : (s old new : List ℕ) → new ≡ results_after s old → KeepsSeventhWord s (length old) new
keeps_seventh_word s old new e i t = subst (λ (x : List ℕ). SeventhWord s x i) (sym e) (seventh_word s old i t)
