-- 01, "The formula and its series" (d374 paragraphs 84 and 86, CRE41), and 02, S-6, "Both ends in the report": what a reader must believe of the raw weight, on all inputs. It has
-- two numbers: the high one is the raw weight from which a line's weight is made, the low one that from which the line's seventh word starts. The series, the ends and which
-- numbers pass are in Series.antt and Ends.antt of `series`, the decay table's rule in DecayTable.antt there. A, D, K and p and the unit of a weight are those of Ends.antt.
use Rattle.std.proofs.Math.Option.{Option, none, some}
use Rattle.std.specs.Prelude.{◌≡◌, ℕ, ◌≤◌, ◌<◌, Result, Ok, Err}
use Rattle.numbers.specs.BothEnds.{both}
use Rattle.numbers.specs.declared.Ends.{Ends}
use Rattle.series.specs.Ends.{Passes, PassesFromBelow}
use Rattle.formula.specs.declared.NoRawWeight.{NoRawWeight}
use Rattle.formula.specs.declared.NoRawWeight.TheVariants.{NoThickness, OutsideLimits}

-- the inputs for which the computation in 64-bit words is shown: points and charge are at most 1,000,000, and the parameter is 1,000,000 or 1,500,000 (01),
-- 500,000 (02, S-1), or one of SEC-IRBA, at least 300,000 (S-5); a parameter from 300,000 to below 5,000,000 is taken
pub record WithinLimits (A D K p : ℕ) : Type 0 where
  pub attachment : A ≤ 1000000
  pub detachment : D ≤ 1000000
  pub charge : K ≤ 1000000
  pub parameter_least : 300000 ≤ p
  pub parameter_most : p < 5000000

-- An answer in 01's numbers: the number of a refusal, where 01 has one for it, and the raw weight's two numbers, where there is a raw weight.
pub record RawWeightNumbers : Type 0 where
  pub refusal : Option ℕ
  pub weight : Option Ends

abbrev pub weighing : Ends → RawWeightNumbers
weighing e = record { refusal = none; weight = some e }

abbrev pub refusing : ℕ → RawWeightNumbers
refusing number = record { refusal = some number; weight = none }

abbrev pub unnumbered : RawWeightNumbers
unnumbered = record { refusal = none; weight = none }

-- The numbers of each case of an answer. `NoThickness` is the condition of 13, "A equals D, and D is above the pool charge", where K is at least 1 (where K
-- is 0, 13 is judged on the sheet alone); A above D, which no sheet has, is answered alike. 13's place is one of the sheet's and is not known here. 01
-- has no number for `OutsideLimits`, since no sheet reaches it, and none is made up here.
abbrev pub numbers_of : Result Ends NoRawWeight → RawWeightNumbers
numbers_of (Ok e) = weighing e
numbers_of (Err NoThickness) = refusing 13
numbers_of (Err OutsideLimits) = unnumbered

-- n holds a raw weight, and no refusal: its high number is a whole number that passes (demand 3), "and never above 125,000"; its low number is one that passes from below (S-6)
pub record PassingWeight (A D K p : ℕ) (n : RawWeightNumbers) : Type 0 where
  pub weight : Ends
  pub answered : n ≡ weighing weight
  pub passes : Passes A D K p weight.high
  pub at_most : weight.high ≤ 125000
  pub passes_from_below : PassesFromBelow A D K p weight.low

-- "the raw weight is 125,000 if D ≤ K; 0 if K = 0; else" the formula, which needs A below D: where K is at least 1, D above K and A not below D
-- there is no raw weight, and the number is 13. Outside the limits there is neither. S-6: "125,000 and 0 are given as they are", so both numbers are the same there.
pub record IsRawWeight (A D K p : ℕ) (n : RawWeightNumbers) : Type 0 where
  pub outside : (WithinLimits A D K p → ⊥) → n ≡ unnumbered
  pub within_charge : WithinLimits A D K p → D ≤ K → n ≡ weighing (both 125000)
  pub charge_zero : WithinLimits A D K p → K < D → K ≡ 0 → n ≡ weighing (both 0)
  pub no_thickness : WithinLimits A D K p → K < D → 1 ≤ K → D ≤ A → n ≡ refusing 13
  pub formula : WithinLimits A D K p → K < D → 1 ≤ K → A < D → PassingWeight A D K p n
