-- 01, "Which approach, then floor, then cap", and 02, S-1, "STC deals", S-5, "SEC-IRBA", S-6, "Both ends in the report", and S-8, "Inferred ratings" (d374 paragraph 31 for due diligence, 42 to 47 for the
-- order of approaches, which CRE40.41 to CRE40.47 give; 56, 85, 94, 115 and 118 for the parameter, 64, 87, 96 and 114 for the floor, 88, 89 and 97 for the cap; CRE42.14 for the
-- floors of STC deals): approach and weight of a tranche, as functions of what the tranche is weighed by and of the deal's terms alone. Weights are counted in hundredths of a percent.
use Rattle.std.specs.Prelude.{Bool, cond, not, ◌&&◌, ◌||◌, ◌≡◌, ℕ, ◌-◌, min, max, ltb, eqb}
use Rattle.std.proofs.Math.Option.{get_or}
use Rattle.numbers.specs.BothEnds.{both, at_both}
use Rattle.numbers.specs.declared.Ends.{Ends}
use Rattle.formula.specs.FixedPoint.{raw_weight}
use Rattle.formula.specs.Formula.{RawWeightNumbers, IsRawWeight}
use Rattle.rating_codes.specs.RatingCodes.{any_present}
use Rattle.ratings.specs.RatingTable.{maturity_fifths, figures_of, ends_by_ratings}
use Rattle.irba.specs.Parameter.{parameter as irba_parameter}
use Rattle.weights.specs.declared.Terms.{Terms}
use Rattle.weights.specs.declared.Tranche.{Tranche}

-- ---- approach

-- "Any of the tranche's three ratings present"; S-8: the ratings that count for it, its own or those that it infers (`tranche`, Lines.antt of `deal`)
abbrev pub rated : Tranche → Bool
rated t = any_present t.ratings.first t.ratings.second t.ratings.third

-- 0 fallback, 1 SEC-ERBA, 2 SEC-SA, 3 SEC-IRBA. "In order: no due diligence, fallback. Re-securitisation, SEC-SA. Any of the tranche's three ratings present,
-- SEC-ERBA. Unknown above 5%, fallback. Else SEC-SA." S-5: where SEC-IRBA applies to the deal (`irba_applies`, IrbaDeals.antt of `irba`), "approach 3: ... ratings and late payers
-- play no part"
abbrev pub approach : Tranche → Terms → ℕ
approach t d =
    cond (not d.diligence) 0
    (cond d.resecuritisation 2
    (cond d.irba 3
    (cond (rated t) 1
    (cond (not d.known) 0
    2))))

-- the approaches that weigh by the formula: SEC-SA and SEC-IRBA. S-5: "The raw weight is that of 01's formula with this charge and parameter, and what demand 3 and 01 say of
-- SEC-SA lines holds for approach 3 lines too."
abbrev pub formula_approach : ℕ → Bool
formula_approach by = eqb by 2 || eqb by 3

-- whether the tranche is weighed by the formula
abbrev pub by_formula : Tranche → Terms → Bool
by_formula t d = formula_approach (approach t d)

-- ---- weight

-- "An ordinary securitisation has supervisory parameter 1 and floor 1,500; a re-securitisation has 1.5 and 10,000." "STC deals use ... parameter 0.5,
-- floor 1,000 for class 1 and 1,500 below." "The exact value is then taken with 0.5.": demand 3 reads this parameter. S-5: under approach 3 it is the one of Parameter.antt of
-- `irba`, "per charge (the one just worked out)", which is the deal's, "per year of tranche maturity", which is 01's
abbrev pub parameter : Tranche → Terms → ℕ
parameter t d =
    cond d.resecuritisation 1500000
    (cond d.irba (irba_parameter t.senior d.stc d.charge (maturity_fifths t.months) d.irb)
    (cond d.stc 500000 1000000))

abbrev pub floor : Tranche → Terms → ℕ
floor t d = cond d.resecuritisation 10000 (cond d.stc (cond t.senior 1000 1500) 1500)

-- "The cap applies to class 1 of an ordinary deal with known composition"
abbrev pub cap_applies : Tranche → Terms → Bool
cap_applies t d = t.senior && not d.resecuritisation && d.composition

-- "The weight is raised to the floor, then lowered to the cap, also below the floor." The cap is the terms' average: S-5: under approach 3 "the IRB average takes the place of the
-- pool average in the cap"
abbrev pub after_floor_and_cap : Tranche → Terms → ℕ → ℕ
after_floor_and_cap t d w =
    let raised = max w (floor t d) in
    cond (cap_applies t d) (min raised d.average) raised

-- A weight has two ends. The high end is the weight of the line; the low end is its seventh word (S-6: "Each tranche gets a seventh word."). What follows says from which number each starts, and what floor
-- and cap make of it.

-- the raw weight's two numbers; where there is none, which no accepted sheet meets (`formula_weighs`, DemandThreeLaw.antt of `deal`), the highest
abbrev pub weight_or_highest : RawWeightNumbers → Ends
weight_or_highest n = get_or n.weight (both 125000)

-- "A SEC-SA line's weight is its tranche's raw weight after floor and cap.", and so is that of an approach 3 line. S-6: "Under the formula it starts from a whole number that is at most the
-- exact raw weight and less than one and a half below it": the low number of the raw weight
unfoldable pub formula_raw_weight : Tranche → Terms → Ends
formula_raw_weight t d = weight_or_highest (raw_weight t.attachment t.detachment d.charge (parameter t d))

-- "STC deals use the second table of source document 001". S-6: "for table weights it starts from the exact figure rounded down"
unfoldable pub table_weight : Tranche → Terms → Ends
table_weight t d =
    ends_by_ratings (figures_of d.stc) t.ratings.first t.ratings.second t.ratings.third t.senior t.months
    (t.detachment - t.attachment)

-- "The fallback is 125,000 with no cap". S-6: "Floor and cap act on it alike."
unfoldable pub weight : Tranche → Terms → Ends
weight t d =
    cond (eqb (approach t d) 0) (both 125000)
    (cond (by_formula t d) (at_both (after_floor_and_cap t d) (formula_raw_weight t d))
    (at_both (after_floor_and_cap t d) (table_weight t d)))

-- What a weight by the formula keeps: its ends are those of an answer of the formula, by `IsRawWeight`, after floor and cap. Where K is at least 1 and D above K this
-- limits the raw weight's two numbers, which the rules leave open, and says how; elsewhere it settles them.
pub record WeightByFormula (t : Tranche) (d : Terms) (w : Ends) : Type 0 where
  pub raw : RawWeightNumbers
  pub is_raw : IsRawWeight t.attachment t.detachment d.charge (parameter t d) raw
  pub weight_is : w ≡ at_both (after_floor_and_cap t d) (weight_or_highest raw)

-- ---- "13: SEC-SA applies, A equals D, and D is above the pool charge"; S-5: "the thin-tranche refusal covers approach 3 tranches, and it ... read[s] this charge"

unfoldable pub thin : Tranche → Terms → Bool
thin t d = by_formula t d && eqb t.attachment t.detachment && ltb d.charge t.detachment
