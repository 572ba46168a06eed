-- 01, "Refusals, by who can cause them", and 02, S-1, for 16, S-3, for 17, S-5, for 18, and S-9, for risk weights in hundredths: the fault of one word by its value and its column, the refusal's number, or 0 where it has none.
-- Which word of a sheet stands where, and which fault decides, is in DealSheet.antt and Refusals.antt of `judgement`.
use Rattle.std.specs.Prelude.{Bool, cond, ◌&&◌, ◌||◌, ℕ, ◌+◌, leb, ltb, eqb}
use Rattle.numbers.specs.Limits.{within}
use Rattle.rating_codes.specs.RatingCodes.{listed}
use Rattle.dates.specs.Calendar.{names_day}
use Rattle.dates.specs.Maturity.{maturity_months, maturity_allowed}

-- the number, unless the word is good
abbrev pub unless : ℕ → Bool → ℕ
unless number good = cond good 0 number

-- "2: a count is outside its limits."
abbrev pub count_fault : ℕ → ℕ → ℕ → ℕ
count_fault least most w = unless 2 (within least most w)

-- "0 no, 1 yes"
abbrev pub yes_or_no : ℕ → Bool
yes_or_no w = leb w 1

-- "4: a fact outside its codes", where these are 0 and 1
abbrev pub code_fault : ℕ → ℕ
code_fault w = unless 4 (yes_or_no w)

-- "pool kind (0 SA, 1 IRB, 2 mixed)", "4: a fact outside its codes"; 02, S-5: "12 no longer occurs"
abbrev pub pool_kind_fault : ℕ → ℕ
pool_kind_fault w = unless 4 (leb w 2)

-- 02, S-1: "A fifth fact says so (0 no, 1 yes)"; "An STC mark on a re-securitisation gets 16 at the fifth fact." The mark is a 1: a word above 1 is none and gets 4.
abbrev pub stc_fault : Bool → ℕ → ℕ
stc_fault resecuritised w = cond (resecuritised && eqb w 1) 16 (code_fault w)

-- 02, S-3: "A sixth fact is the reporting date, ...; 0 or absent means months as before."; "A date that does not exist or is outside those years ... gets 17 at its own
-- word."
abbrev pub reporting_date_fault : ℕ → ℕ
reporting_date_fault w = unless 17 (eqb w 0 || names_day w)

-- the fault of the fact at place p: the pool kind is at 1, the STC mark at 5, the reporting date at 6, and the others are "0 no, 1 yes"; 02, S-9: "A seventh fact is the unit of
-- the risk weight word: 0 whole percent, 1 hundredths", with the same two codes
abbrev pub fact_fault : Bool → ℕ → ℕ → ℕ
fact_fault resecuritised p w =
    cond (eqb p 1) (pool_kind_fault w)
    (cond (eqb p 5) (stc_fault resecuritised w)
    (cond (eqb p 6) (reporting_date_fault w)
    (code_fault w)))

-- ---- a pool row

-- "exposure amount and nominal amount, each 1 to 10^10"
abbrev pub pool_amount_in_limits : ℕ → Bool
pool_amount_in_limits w = within 1 10000000000 w

-- "risk weight in whole percent, 0 to 1250"; 02, S-9: "0 whole percent, 1 hundredths up to 125,000": the highest word in the sheet's unit
abbrev pub highest_weight_word : Bool → ℕ
highest_weight_word hundredths = cond hundredths 125000 1250

abbrev pub risk_weight_in_limits : Bool → ℕ → Bool
risk_weight_in_limits hundredths w = leb w (highest_weight_word hundredths)

-- "a status above 3; a 3 in an ordinary deal; any other in a re-securitisation", turned round
abbrev pub status_allowed : Bool → ℕ → Bool
status_allowed resecuritised w = cond resecuritised (eqb w 3) (leb w 2)

-- "5: a pool amount outside 1 to 10^10. 6: a risk weight above 1250.", above 125,000 in hundredths. "7: a status ..." The columns of a pool row, from 0: exposure amount,
-- nominal amount, risk weight, status
abbrev pub row_fault : Bool → Bool → ℕ → ℕ → ℕ
row_fault resecuritised hundredths column w =
    cond (ltb column 2) (unless 5 (pool_amount_in_limits w))
    (cond (eqb column 2) (unless 6 (risk_weight_in_limits hundredths w))
    (unless 7 (status_allowed resecuritised w)))

-- whether none of a row's four words has a fault
abbrev pub row_is_good : Bool → Bool → ℕ → ℕ → ℕ → ℕ → Bool
row_is_good resecuritised hundredths exposure nominal weight status =
    eqb (row_fault resecuritised hundredths 0 exposure) 0 &&
    (eqb (row_fault resecuritised hundredths 1 nominal) 0 &&
    (eqb (row_fault resecuritised hundredths 2 weight) 0 &&
    eqb (row_fault resecuritised hundredths 3 status) 0))

-- ---- a tranche row

-- "The first row has class 1; each next row has the class before it or one more."
abbrev pub class_in_order : ℕ → ℕ → ℕ → Bool
class_in_order i before w = cond (eqb i 0) (eqb w 1) (eqb w before || eqb w (before + 1))

-- "amount, 1 to 10^13", "final legal maturity in months, 1 to 1200"
abbrev pub tranche_amount_in_limits : ℕ → Bool
tranche_amount_in_limits w = within 1 10000000000000 w

abbrev pub months_in_limits : ℕ → Bool
months_in_limits n = within 1 1200 n

-- 02, S-3: "A date that does not exist or is outside those years, or a maturity not after the reporting date, gets 17 at its own word.", and of every other maturity "The 1 to
-- 1200 limit then applies.", to its months
abbrev pub maturity_fault : ℕ → ℕ → ℕ
maturity_fault reporting_date w = cond (maturity_allowed reporting_date w) (unless 10 (months_in_limits (maturity_months reporting_date w))) 17

-- "amount held, 0 to the tranche amount"
abbrev pub held_in_limits : ℕ → ℕ → Bool
held_in_limits trancheAmount w = leb w trancheAmount

-- "8: a tranche amount outside its limits, or held above the amount. 9: a class out of order. 10: a maturity outside 1 to 1200. 11: a rating code
-- not listed." The columns of tranche i, from 0: amount, class, maturity, held, three ratings; `reporting_date` is the reporting date or 0, `before` the class of the row before
abbrev pub tranche_fault : ℕ → ℕ → ℕ → ℕ → ℕ → ℕ → ℕ
tranche_fault reporting_date i before trancheAmount column w =
    cond (eqb column 0) (unless 8 (tranche_amount_in_limits w))
    (cond (eqb column 1) (unless 9 (class_in_order i before w))
    (cond (eqb column 2) (maturity_fault reporting_date w)
    (cond (eqb column 3) (unless 8 (held_in_limits trancheAmount w))
    (unless 11 (listed w)))))

-- ---- the IRB section; 02, S-5

-- "share of exposure with an IRB charge (10^6 for kind 1, 0 to 10^6 for kind 2)"
abbrev pub share_allowed : ℕ → ℕ → Bool
share_allowed kind w = cond (eqb kind 1) (eqb w 1000000) (leb w 1000000)

-- "IRB charge and average loss given default (millionths, to 10^6), effective number of loans (1 to 10^6), retail (0 or 1), share ..., IRB average weight (...; to
-- 125,000)": the columns of the section's row, from 0, where the pool is of that kind
abbrev pub irb_in_limits : ℕ → ℕ → ℕ → Bool
irb_in_limits kind column w =
    cond (ltb column 2) (leb w 1000000)
    (cond (eqb column 2) (within 1 1000000 w)
    (cond (eqb column 3) (yes_or_no w)
    (cond (eqb column 4) (share_allowed kind w)
    (leb w 125000))))

-- "a value outside these limits 18 at its word"
abbrev pub irb_fault : ℕ → ℕ → ℕ → ℕ
irb_fault kind column w = unless 18 (irb_in_limits kind column w)
