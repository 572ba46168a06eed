-- No word's fault has the number 12, which "no longer occurs" (02, S-5), nor 13 or 14: these are judged after the words, by tranche and by the room for results; nor 19, which only a conversion
-- gets (S-9). No axioms.
use mathlib.Core.Bool.{Bool, true, false, cond, ◌&&◌, ◌||◌}
use mathlib.Core.Path.{◌≡◌}
use Prim.Native.Nat.{ℕ, ◌<◌}
use native.Mathlib.Omega.{arith}
use lib.Dec.{leb, ltb, eqb}
use Rattle.numbers.specs.Limits.{within}
use Rattle.rating_codes.specs.RatingCodes.{listed}
use Rattle.dates.specs.Calendar.{names_day}
use Rattle.dates.specs.Maturity.{maturity_months, maturity_allowed}
use Rattle.faults.specs.WordFaults.{unless, count_fault, yes_or_no, code_fault, fact_fault, pool_amount_in_limits, risk_weight_in_limits, status_allowed, row_fault, class_in_order, tranche_amount_in_limits, months_in_limits, held_in_limits, tranche_fault, irb_in_limits, irb_fault}

pub record WordNumber (n : ℕ) : Type 0 where
  pub not_pool_kind : n ≡ 12 → ⊥
  pub not_thin : n ≡ 13 → ⊥
  pub not_room : n ≡ 14 → ⊥
  pub not_whole_percent : n ≡ 19 → ⊥

below_12 : (n : ℕ) → n < 12 → WordNumber n
below_12 n h = record { not_pool_kind = λ e. omega arith; not_thin = λ e. omega arith; not_room = λ e. omega arith; not_whole_percent = λ e. omega arith }

between_14_and_19 : (n : ℕ) → 14 < n → n < 19 → WordNumber n
between_14_and_19 n h l =
    record { not_pool_kind = λ e. omega arith; not_thin = λ e. omega arith; not_room = λ e. omega arith; not_whole_percent = λ e. omega arith }

-- a number that is picked from two, and one that stands unless the word is good

pub picked : (b : Bool) (x y : ℕ) → WordNumber x → WordNumber y → WordNumber (cond b x y)
picked true x y p q = p
picked false x y p q = q

stands : (number : ℕ) (good : Bool) → WordNumber number → WordNumber (unless number good)
stands number good is = picked good 0 number (below_12 0 (omega arith)) is

-- ---- each rule

pub count_number : (least most w : ℕ) → WordNumber (count_fault least most w)
count_number least most w = stands 2 (within least most w) (below_12 2 (omega arith))

code_number : (w : ℕ) → WordNumber (code_fault w)
code_number w = stands 4 (yes_or_no w) (below_12 4 (omega arith))

pub fact_number : (resecuritised : Bool) (p w : ℕ) → WordNumber (fact_fault resecuritised p w)
fact_number resecuritised p w =
    picked (eqb p 1) _ _
    (stands 4 (leb w 2) (below_12 4 (omega arith)))
    (picked (eqb p 5) _ _
    (picked (resecuritised && eqb w 1) _ _ (between_14_and_19 16 (omega arith) (omega arith)) (code_number w))
    (picked (eqb p 6) _ _ (stands 17 (eqb w 0 || names_day w) (between_14_and_19 17 (omega arith) (omega arith)))
    (code_number w)))

pub row_number : (resecuritised hundredths : Bool) (column w : ℕ) → WordNumber (row_fault resecuritised hundredths column w)
row_number resecuritised hundredths column w =
    picked (ltb column 2) _ _ (stands 5 (pool_amount_in_limits w) (below_12 5 (omega arith)))
    (picked (eqb column 2) _ _ (stands 6 (risk_weight_in_limits hundredths w) (below_12 6 (omega arith)))
    (stands 7 (status_allowed resecuritised w) (below_12 7 (omega arith))))

pub tranche_number : (reporting_date i before whole column w : ℕ) → WordNumber (tranche_fault reporting_date i before whole column w)
tranche_number reporting_date i before whole column w =
    picked (eqb column 0) _ _ (stands 8 (tranche_amount_in_limits w) (below_12 8 (omega arith)))
    (picked (eqb column 1) _ _ (stands 9 (class_in_order i before w) (below_12 9 (omega arith)))
    (picked (eqb column 2) _ _
    (picked (maturity_allowed reporting_date w) _ _ (stands 10 (months_in_limits (maturity_months reporting_date w)) (below_12 10 (omega arith))) (between_14_and_19 17 (omega arith) (omega arith)))
    (picked (eqb column 3) _ _ (stands 8 (held_in_limits whole w) (below_12 8 (omega arith)))
    (stands 11 (listed w) (below_12 11 (omega arith))))))

pub irb_number : (kind column w : ℕ) → WordNumber (irb_fault kind column w)
irb_number kind column w = stands 18 (irb_in_limits kind column w) (between_14_and_19 18 (omega arith) (omega arith))
