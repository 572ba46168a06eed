-- 01, "Checked deals († to be proved)": every † as tests of the meanings themselves, in one list, with the seventh word of 02, S-6, "Both ends in the report", where a line or a raw
-- weight is tested. That all of them hold is one theorem,
-- `checked_deals` (proofs/CheckedDealsLaw.antt).
use Rattle.std.specs.Prelude.{Bool, true, false, not, ◌&&◌, ◌||◌, List, [], ◌∷◌, ◌++◌, ◌⊎◌, ◌≡◌, ℕ, ◌+◌, ◌*◌, leb, ltb, eqb}
use Rattle.std.proofs.Math.Option.{Option, none, some}
use Prim.Native.String.{String}
use Rattle.limits.specs.SheetSize.{result_room}
use Rattle.numbers.specs.declared.Ends.{Ends}
use Rattle.files.specs.FileForm.{file_bytes}
use Rattle.formula.specs.FixedPoint.{raw_weight}
use Rattle.series.specs.Ends.{lower_exponent, upper_exponent, Difference, upper_end, lower_end}
use Rattle.formula.specs.Formula.{RawWeightNumbers}
use Rattle.series.specs.Fraction.{Fraction, over, plus, whole}
use Rattle.ratings.specs.RatingTable.{ordinary_figures, maturity_fifths, weight_by_rating}
use Rattle.weights.specs.ApproachFloorCap.{approach, parameter}
use Rattle.charge.specs.PoolCharge.{base_charge, late_share, pool_average}
use Rattle.pool.specs.PoolSums.{pool_sums}
use Rattle.deal.specs.Lines.{terms, tranche, line_words}
use Rattle.deal.specs.Results.{reply_to}
use Rattle.files.specs.Decimal.{newline}
use Rattle.report.specs.ReportText.{ascii, file_text}

-- ---- tests

abbrev pub all_hold : List Bool → Bool
all_hold [] = true
all_hold (b ∷ bs) = b && all_hold bs

abbrev pub same_list : List ℕ → List ℕ → Bool
same_list [] [] = true
same_list [] (y ∷ ys) = false
same_list (x ∷ xs) [] = false
same_list (x ∷ xs) (y ∷ ys) = eqb x y && same_list xs ys

-- the bytes of a text's lines, each with a newline after it
abbrev pub text_of : List String → List ℕ
text_of [] = []
text_of (l ∷ ls) = ascii l ++ newline ∷ text_of ls

-- the file of a sheet gets this whole text
abbrev pub prints : List ℕ → List String → Bool
prints sheet text = same_list (file_text (file_bytes sheet)) (text_of text)

-- a sheet gets no refusal, and this pool charge
abbrev pub accepted_at : List ℕ → ℕ → Bool
accepted_at sheet charge = eqb (reply_to sheet result_room).number 0 && eqb (reply_to sheet result_room).charge charge

-- the line of a sheet's first tranche has these seven words
abbrev pub first_line : List ℕ → List ℕ → Bool
first_line sheet words = same_list (line_words (tranche sheet 0) (terms sheet)) words

-- two ends are there, and pass a test
abbrev pub are_there : Option Ends → (Ends → Bool) → Bool
are_there none test = false
are_there (some e) test = test e

-- an answer of raw_weight (its inputs are A, D, K and the parameter) is this number, as it is in both its numbers,
abbrev pub is_weight : RawWeightNumbers → ℕ → Bool
is_weight n w = are_there n.weight (λ e. eqb e.low w && eqb e.high w)

-- or its high number is one of these two,
abbrev pub is_either : RawWeightNumbers → ℕ → ℕ → Bool
is_either n v w = are_there n.weight (λ e. eqb e.high v || eqb e.high w)

-- or its low number is this one
abbrev pub starts_from : RawWeightNumbers → ℕ → Bool
starts_from n w = are_there n.weight (λ e. eqb e.low w)

-- "An ordinary securitisation has supervisory parameter 1"
abbrev pub ordinary : ℕ
ordinary = 1000000

-- ---- a number that passes, also from below: `Passes` and `PassesFromBelow` of Ends.antt in `series` and what they are made of, as tests at one k

-- Admitted
abbrev pub admitted : Fraction → ℕ → Bool
admitted q k = leb (2 * q.top) ((k + 2) * q.bottom)

-- AtMost
abbrev pub at_most : Fraction → Fraction → Bool
at_most x y = leb (x.top * y.bottom) (y.top * x.bottom)

-- Below
abbrev pub below : Fraction → Fraction → Bool
below x y = ltb (x.top * y.bottom) (y.top * x.bottom)

-- EndAtMost
abbrev pub end_at_most : Difference → ℕ → Bool
end_at_most e w = at_most e.minuend (plus (whole w) e.subtrahend)

-- EndAboveMinusTwo
abbrev pub end_above_minus_two : Difference → ℕ → Bool
end_above_minus_two e w = below (plus (whole w) e.subtrahend) (plus e.minuend (whole 2))

-- EndAtLeast
abbrev pub end_at_least : Difference → ℕ → Bool
end_at_least e w = at_most (plus (whole w) e.subtrahend) e.minuend

-- EndBelowPlusOneAndAHalf
abbrev pub end_below_plus_one_and_aHalf : Difference → ℕ → Bool
end_below_plus_one_and_aHalf e w = below e.minuend (plus (plus (whole w) (over 3 2)) e.subtrahend)

-- Counts
abbrev pub counts : ℕ → ℕ → ℕ → ℕ → ℕ → Bool
counts A D K p k = admitted (lower_exponent A K p) k && admitted (upper_exponent D K p) k

-- Passes
abbrev pub passes_at : ℕ → ℕ → ℕ → ℕ → ℕ → ℕ → Bool
passes_at A D K p k w = counts A D K p k && end_at_most (upper_end A D K p k) w && end_above_minus_two (lower_end A D K p k) w

-- PassesFromBelow
abbrev pub passes_from_below_at : ℕ → ℕ → ℕ → ℕ → ℕ → ℕ → Bool
passes_from_below_at A D K p k w = counts A D K p k && end_at_least (lower_end A D K p k) w && end_below_plus_one_and_aHalf (upper_end A D K p k) w

-- a number passes, in one of these meanings, just where it is one of these two: shown of the open cases of the list in proofs/CheckedDealsLaw.antt
pub record JustTwo (Pass : ℕ → Type 0) (v w : ℕ) : Type 0 where
  pub these : (x : ℕ) → (x ≡ v) ⊎ (x ≡ w) → Pass x
  pub no_other : (x : ℕ) → Pass x → (x ≡ v) ⊎ (x ≡ w)

-- ---- the sheets: facts, pool and tranches, each after its count

-- "Sheet `4 0 0 1 1 2 950 950 100 0 50 50 100 1 3 800 1 72 800 1 0 0 150 2 72 100 9 0 0 50 3 72 50 0 0 0`."
abbrev pub checked_sheet : List ℕ
checked_sheet =
    4 ∷ 0 ∷ 0 ∷ 1 ∷ 1 ∷
    2 ∷ 950 ∷ 950 ∷ 100 ∷ 0 ∷ 50 ∷ 50 ∷ 100 ∷ 1 ∷
    3 ∷ 800 ∷ 1 ∷ 72 ∷ 800 ∷ 1 ∷ 0 ∷ 0 ∷ 150 ∷ 2 ∷ 72 ∷ 100 ∷ 9 ∷ 0 ∷ 0 ∷ 50 ∷ 3 ∷ 72 ∷ 50 ∷ 0 ∷ 0 ∷ 0 ∷ []

-- "prints this whole text", each line of a tranche with S-6's seventh word at its end: 2,000 and 26,350 are whole figures of the table, and the third tranche has D ≤ K
abbrev pub checked_text : List String
checked_text =
    "charge 101000 tranches 3" ∷
    "1 1 200000 1000000 2000 160 13 2000" ∷
    "2 1 50000 200000 26350 264 22 26350" ∷
    "3 2 0 50000 125000 625 50 125000" ∷
    "total 1049 85" ∷ []

-- one tranche, rated AAA, over loans of 10%
abbrev pub capped_sheet : List ℕ
capped_sheet =
    4 ∷ 0 ∷ 0 ∷ 1 ∷ 1 ∷
    1 ∷ 1000 ∷ 1000 ∷ 10 ∷ 0 ∷
    1 ∷ 1000 ∷ 1 ∷ 12 ∷ 1000 ∷ 1 ∷ 0 ∷ 0 ∷ []

-- exposures of 2 at 100% and of 1 at 50%, with one tranche, rated BBB-, which has 12,000 by the table
abbrev pub two_row_sheet : List ℕ
two_row_sheet =
    4 ∷ 0 ∷ 0 ∷ 1 ∷ 1 ∷
    2 ∷ 2 ∷ 2 ∷ 100 ∷ 0 ∷ 1 ∷ 1 ∷ 50 ∷ 0 ∷
    1 ∷ 3 ∷ 1 ∷ 12 ∷ 3 ∷ 10 ∷ 0 ∷ 0 ∷ []

-- a paying row of 950 and one of 50 whose status is not known, at 100%, with one unrated tranche
abbrev pub unknown_sheet : List ℕ
unknown_sheet =
    4 ∷ 0 ∷ 0 ∷ 1 ∷ 1 ∷
    2 ∷ 950 ∷ 950 ∷ 100 ∷ 0 ∷ 50 ∷ 50 ∷ 100 ∷ 2 ∷
    1 ∷ 1000 ∷ 1 ∷ 12 ∷ 1000 ∷ 0 ∷ 0 ∷ 0 ∷ []

-- the same with 949 and 51
abbrev pub more_unknown_sheet : List ℕ
more_unknown_sheet =
    4 ∷ 0 ∷ 0 ∷ 1 ∷ 1 ∷
    2 ∷ 949 ∷ 949 ∷ 100 ∷ 0 ∷ 51 ∷ 51 ∷ 100 ∷ 2 ∷
    1 ∷ 1000 ∷ 1 ∷ 12 ∷ 1000 ∷ 0 ∷ 0 ∷ 0 ∷ []

-- ---- the checks

unfoldable pub checks : List Bool
checks =
    -- "Sheet ... The report program reads it as a file and prints this whole text"
    prints checked_sheet checked_text ∷
    -- "eight bytes each, lowest byte first": 950 is 182 + 3 × 256
    same_list (file_bytes (950 ∷ [])) (182 ∷ 3 ∷ 0 ∷ 0 ∷ 0 ∷ 0 ∷ 0 ∷ 0 ∷ []) ∷
    -- "Months 1 and 12 give 60; 36 gives 156; 71 gives 296; 72 and 1200 give 300."
    eqb (maturity_fifths 1) 60 ∷
    eqb (maturity_fifths 12) 60 ∷
    eqb (maturity_fifths 36) 156 ∷
    eqb (maturity_fifths 71) 296 ∷
    eqb (maturity_fifths 72) 300 ∷
    eqb (maturity_fifths 1200) 300 ∷
    -- "Senior AA, 36 months: 3,100." AA has the code 3; the thickness, here 0 and 1, does not count.
    eqb (weight_by_rating ordinary_figures 3 true 36 0) 3100 ∷
    eqb (weight_by_rating ordinary_figures 3 true 36 1000000) 3100 ∷
    -- "Non-senior A+, 12 months, half thick: 4,000." A+ has the code 5.
    eqb (weight_by_rating ordinary_figures 5 false 12 500000) 4000 ∷
    -- "Senior AAA over loans of 10%: 1,000."
    accepted_at capped_sheet 8000 ∷
    first_line capped_sheet (1 ∷ 0 ∷ 1000000 ∷ 1000 ∷ 100 ∷ 8 ∷ 1000 ∷ []) ∷
    -- "Rows (2, 100%) and (1, 50%): base 66,667, cap 8,334."
    accepted_at two_row_sheet 66667 ∷
    eqb (base_charge (pool_sums two_row_sheet).known) 66667 ∷
    eqb (pool_average (pool_sums two_row_sheet)) 8334 ∷
    first_line two_row_sheet (1 ∷ 0 ∷ 1000000 ∷ 8334 ∷ 3 ∷ 1 ∷ 8334 ∷ []) ∷
    -- "Base 80,000, none late, 5% unknown: charge 126,000;
    eqb (base_charge (pool_sums unknown_sheet).known) 80000 ∷
    eqb (late_share (pool_sums unknown_sheet)) 0 ∷
    accepted_at unknown_sheet 126000 ∷
    eqb (approach (tranche unknown_sheet 0) (terms unknown_sheet)) 2 ∷
    -- 5.1%: fallback."
    eqb (base_charge (pool_sums more_unknown_sheet).known) 80000 ∷
    eqb (late_share (pool_sums more_unknown_sheet)) 0 ∷
    accepted_at more_unknown_sheet 1000000 ∷
    first_line more_unknown_sheet (0 ∷ 0 ∷ 1000000 ∷ 125000 ∷ 12500 ∷ 1000 ∷ 125000 ∷ []) ∷
    -- in the cases that follow the parameter is that of an ordinary deal's tranche
    eqb (parameter (tranche unknown_sheet 0) (terms unknown_sheet)) ordinary ∷
    -- "K = 0, D above 0: raw 0.
    is_weight (raw_weight 0 1 0 ordinary) 0 ∷
    is_weight (raw_weight 50000 1000000 0 ordinary) 0 ∷
    -- K = 0 and D = 0: 125,000."
    is_weight (raw_weight 0 0 0 ordinary) 125000 ∷
    -- "D = K: 125,000."
    is_weight (raw_weight 50000 100000 100000 ordinary) 125000 ∷
    is_weight (raw_weight 100000 100000 100000 ordinary) 125000 ∷
    -- "K = A = 100,000, D = 200,000: 79,016 or 79,017." At k = 8 these two pass and their neighbours do not; that no other passes at any k is
    -- `open_case_above_charge` (proofs/CheckedDealsLaw.antt).
    not (passes_at 100000 200000 100000 ordinary 8 79015) ∷
    passes_at 100000 200000 100000 ordinary 8 79016 ∷
    passes_at 100000 200000 100000 ordinary 8 79017 ∷
    not (passes_at 100000 200000 100000 ordinary 8 79018) ∷
    -- "K = 100,000, A = 50,000, D = 150,000: 111,684 or 111,685." The same at k = 6, and at any k `open_case_around_charge`.
    not (passes_at 50000 150000 100000 ordinary 6 111683) ∷
    passes_at 50000 150000 100000 ordinary 6 111684 ∷
    passes_at 50000 150000 100000 ordinary 6 111685 ∷
    not (passes_at 50000 150000 100000 ordinary 6 111686) ∷
    -- The raw weight given is one of the two, in each of these cases.
    is_either (raw_weight 100000 200000 100000 ordinary) 79016 79017 ∷
    is_either (raw_weight 50000 150000 100000 ordinary) 111684 111685 ∷
    -- S-6 of the same two: the exact values are 79,015.07 and 111,683.67. So in the first 79,014 and 79,015 pass from below, at k = 8 and no other at any k, `open_case_from_below`; in the
    -- second 111,683 does, at k = 6, and its neighbours do not there. The raw weight's low number is one of these.
    not (passes_from_below_at 100000 200000 100000 ordinary 8 79013) ∷
    passes_from_below_at 100000 200000 100000 ordinary 8 79014 ∷
    passes_from_below_at 100000 200000 100000 ordinary 8 79015 ∷
    not (passes_from_below_at 100000 200000 100000 ordinary 8 79016) ∷
    not (passes_from_below_at 50000 150000 100000 ordinary 6 111682) ∷
    passes_from_below_at 50000 150000 100000 ordinary 6 111683 ∷
    not (passes_from_below_at 50000 150000 100000 ordinary 6 111684) ∷
    (starts_from (raw_weight 100000 200000 100000 ordinary) 79014 || starts_from (raw_weight 100000 200000 100000 ordinary) 79015) ∷
    starts_from (raw_weight 50000 150000 100000 ordinary) 111683 ∷ []
