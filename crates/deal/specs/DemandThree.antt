-- 01, "The formula and its series", demand 3, and 02, S-6, "Both ends in the report": what the results hold for every accepted tranche by the formula with K at least 1 and D above
-- K, where the rules leave the raw weight and the number from which the seventh word starts open. The parameter is that of the tranche and its deal; S-1 of 02 for STC deals: "The
-- exact value is then taken with 0.5." S-5: "what demand 3 and 01 say of SEC-SA lines holds for approach 3 lines too", and "the exact value read[s] this charge and parameter".
use Rattle.std.specs.Prelude.{true, List, ◌≡◌, ℕ, ◌+◌, ◌*◌, ◌≤◌, ◌<◌, get_or}
use Rattle.series.specs.Ends.{Passes, PassesFromBelow}
use Rattle.limits.specs.SheetSize.{line_size}
use Rattle.judgement.specs.DealSheet.{tranche_count}
use Rattle.deal.specs.Points.{attachment_point, detachment_point}
use Rattle.weights.specs.ApproachFloorCap.{by_formula, parameter, after_floor_and_cap, formula_raw_weight}
use Rattle.deal.specs.Lines.{terms, tranche}
use Rattle.deal.specs.Refusals.{verdict}
use Rattle.judgement.specs.Verdicts.{Sound}

-- "every accepted SEC-SA tranche with K at least 1 and D above K", and every such tranche under approach 3: both are by the formula; "A tranche is accepted where its sheet gets
-- no refusal."
pub record AboveCharge (s : List ℕ) (room i : ℕ) : Type 0 where
  pub accepted : verdict s room ≡ Sound
  pub among : i < tranche_count s
  pub under_formula : by_formula (tranche s i) (terms s) ≡ true
  pub charge_least : 1 ≤ (terms s).charge
  pub above : (terms s).charge < detachment_point s i

-- the raw weight that tranche i gets
abbrev pub raw_weight_of : List ℕ → ℕ → ℕ
raw_weight_of s i = (formula_raw_weight (tranche s i) (terms s)).high

-- the number from which its seventh word starts
abbrev pub low_raw_weight_of : List ℕ → ℕ → ℕ
low_raw_weight_of s i = (formula_raw_weight (tranche s i) (terms s)).low

-- "the line's weight is the raw weight the tranche gets, after floor and cap, and some k has its upper end at most that raw weight and its lower
-- end more than that raw weight minus 2"; "A raw weight is a whole number and never above 125,000." The weight is the fourth word of the line.
pub record DemandThree (s results : List ℕ) (i : ℕ) : Type 0 where
  pub line_weight : get_or results (line_size * i + 3) 0 ≡ after_floor_and_cap (tranche s i) (terms s) (raw_weight_of s i)
  pub passes : Passes (attachment_point s i) (detachment_point s i) (terms s).charge (parameter (tranche s i) (terms s)) (raw_weight_of s i)
  pub at_most : raw_weight_of s i ≤ 125000

-- what results of that many words hold of all such tranches
abbrev pub KeepsDemandThree : List ℕ → ℕ → List ℕ → Type 0
KeepsDemandThree s room results = (i : ℕ) → AboveCharge s room i → DemandThree s results i

-- S-6: "Under the formula it starts from a whole number that is at most the exact raw weight and less than one and a half below it (some k has its lower end at least that number and its
-- upper end less than the number plus 1.5)"; "Floor and cap act on it alike."; "where K is at least 1 and D above K, the formula's seventh word starts from a number that the rules leave
-- open too, within the limits above." It is the last word of the line.
pub record SeventhWord (s results : List ℕ) (i : ℕ) : Type 0 where
  pub line_low : get_or results (line_size * i + 6) 0 ≡ after_floor_and_cap (tranche s i) (terms s) (low_raw_weight_of s i)
  pub passes_from_below :
      PassesFromBelow (attachment_point s i) (detachment_point s i) (terms s).charge (parameter (tranche s i) (terms s)) (low_raw_weight_of s i)

-- what results of that many words hold of all such tranches
abbrev pub KeepsSeventhWord : List ℕ → ℕ → List ℕ → Type 0
KeepsSeventhWord s room results = (i : ℕ) → AboveCharge s room i → SeventhWord s results i
