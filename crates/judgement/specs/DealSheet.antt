-- 01, "The deal sheet", and 02, S-1, for the fifth fact, S-3, for the sixth and for maturities, S-9, for the seventh and for risk weights, and S-5, for the fourth section: where each word of a sheet stands. Places are counted from 0. A
-- count is read as it stands, however wrong: a wrong count is itself the first fault of its sheet (Refusals.antt). The fourth section has one row, whatever its count says.
use Rattle.std.specs.Prelude.{Bool, cond, not, List, ℕ, ◌+◌, ◌*◌, leb, eqb, get_or}
use Rattle.limits.specs.SheetSize.{row_size, tranche_size, irb_rows, irb_size}
use Rattle.dates.specs.Maturity.{maturity_months}
use Rattle.irba.specs.declared.IrbFigures.{IrbFigures}
use Rattle.judgement.specs.declared.Layout.{Layout}

-- the word at a place (0 past the end)
abbrev pub word : List ℕ → ℕ → ℕ
word s p = get_or s p 0

-- ---- "Facts, count 4: pool kind (0 SA, 1 IRB, 2 mixed); re-securitisation; due diligence held; pool composition known." The count is at place
-- 0, the pool kind at place 1. These four every sheet with good words has.

abbrev pub pool_kind : List ℕ → ℕ
pool_kind s = word s 1

abbrev pub resecuritisation : List ℕ → Bool
resecuritisation s = eqb (word s 2) 1

abbrev pub due_diligence : List ℕ → Bool
due_diligence s = eqb (word s 3) 1

abbrev pub composition_known : List ℕ → Bool
composition_known s = eqb (word s 4) 1

-- whether the list of facts has fact n, counted from 1
abbrev pub has_fact : List ℕ → ℕ → Bool
has_fact s n = leb n (word s 0)

-- fact n, and 0 where the list is shorter
abbrev pub fact : List ℕ → ℕ → ℕ
fact s n = cond (has_fact s n) (word s n) 0

-- 02, S-1: "simple, transparent and comparable deals. A fifth fact says so (0 no, 1 yes); a sheet with four facts counts as 0."
abbrev pub stc : List ℕ → Bool
stc s = eqb (fact s 5) 1

-- 02, S-3: "A sixth fact is the reporting date, ...; 0 or absent means months as before."
abbrev pub reporting_date : List ℕ → ℕ
reporting_date s = fact s 6

-- 02, S-9: "A seventh fact is the unit of the risk weight word: 0 whole percent, 1 hundredths"; 0 where the list is shorter. Fact n stands at place n, so this is its number and its place
abbrev pub unit_at : ℕ
unit_at = 7

-- whether the unit is hundredths of a percent
abbrev pub in_hundredths : List ℕ → Bool
in_hundredths s = eqb (fact s unit_at) 1

-- ---- "Pool, count 1 to 1,000. A row: exposure amount and nominal amount, ...; risk weight ...; status ..."

-- the place of the pool's count
unfoldable pub pool_at : List ℕ → ℕ
pool_at s = 1 + word s 0

unfoldable pub rows : List ℕ → ℕ
rows s = word s (pool_at s)

-- the place of row i, from 0
abbrev pub row_at : List ℕ → ℕ → ℕ
row_at s i = pool_at s + 1 + row_size * i

abbrev pub exposure : List ℕ → ℕ → ℕ
exposure s i = word s (row_at s i)

abbrev pub nominal : List ℕ → ℕ → ℕ
nominal s i = word s (row_at s i + 1)

-- the place of the risk weight, and its word, in the sheet's unit
abbrev pub weight_at : List ℕ → ℕ → ℕ
weight_at s i = row_at s i + 2

abbrev pub weight_word : List ℕ → ℕ → ℕ
weight_word s i = word s (weight_at s i)

-- how many hundredths of a percent one unit of it is
abbrev pub weight_unit : Bool → ℕ
weight_unit hundredths = cond hundredths 1 100

-- 02, S-9: "Inside, all weights ... are kept in hundredths": the risk weight of row i in hundredths of a percent, whatever the unit of its word
abbrev pub risk_weight : List ℕ → ℕ → ℕ
risk_weight s i = weight_unit (in_hundredths s) * weight_word s i

-- "0 paying, 1 delinquent, 2 not known, 3 securitisation tranche"
abbrev pub status : List ℕ → ℕ → ℕ
status s i = word s (row_at s i + 3)

-- ---- "Tranches, count 1 to 32. A row: amount, ...; class; final legal maturity in months, ...; amount held, ...; three rating words."

-- the place of the tranches' count
unfoldable pub tranches_at : List ℕ → ℕ
tranches_at s = row_at s (rows s)

unfoldable pub tranche_count : List ℕ → ℕ
tranche_count s = word s (tranches_at s)

-- the place of tranche i, from 0
abbrev pub tranche_at : List ℕ → ℕ → ℕ
tranche_at s i = tranches_at s + 1 + tranche_size * i

abbrev pub amount : List ℕ → ℕ → ℕ
amount s i = word s (tranche_at s i)

-- "Class 1 is the senior class. ... Equal classes rank pari passu."
abbrev pub class : List ℕ → ℕ → ℕ
class s i = word s (tranche_at s i + 1)

-- the word of the final legal maturity: months, or "With a date, the maturity word is a date too."
abbrev pub maturity : List ℕ → ℕ → ℕ
maturity s i = word s (tranche_at s i + 2)

-- the months of the final legal maturity, which the weights and the inference of ratings read, however its word is written
abbrev pub months : List ℕ → ℕ → ℕ
months s i = maturity_months (reporting_date s) (maturity s i)

abbrev pub held : List ℕ → ℕ → ℕ
held s i = word s (tranche_at s i + 3)

abbrev pub first_rating : List ℕ → ℕ → ℕ
first_rating s i = word s (tranche_at s i + 4)

abbrev pub second_rating : List ℕ → ℕ → ℕ
second_rating s i = word s (tranche_at s i + 5)

abbrev pub third_rating : List ℕ → ℕ → ℕ
third_rating s i = word s (tranche_at s i + 6)

-- ---- 02, S-5: "Pool kinds 1 and 2 add a fourth section, count 1, with six words: IRB charge and average loss given default ..., effective number of loans ..., retail
-- ..., share of exposure with an IRB charge ..., IRB average weight ..."

-- whether the sheet has the section
abbrev pub has_irb : List ℕ → Bool
has_irb s = not (eqb (pool_kind s) 0)

-- the place of the section's count, past the last tranche
unfoldable pub irb_at : List ℕ → ℕ
irb_at s = tranche_at s (tranche_count s)

-- the place of a word of the section's row, by its column from 0
abbrev pub irb_place : List ℕ → ℕ → ℕ
irb_place s c = irb_at s + 1 + c

-- the word there, and 0 in a sheet without the section
abbrev pub irb_word : List ℕ → ℕ → ℕ
irb_word s c = cond (has_irb s) (word s (irb_place s c)) 0

unfoldable pub irb_figures : List ℕ → IrbFigures
irb_figures s = record {
  charge = irb_word s 0;
  loss = irb_word s 1;
  loans = irb_word s 2;
  retail = eqb (irb_word s 3) 1;
  share = irb_word s 4;
  average = irb_word s 5;
}

-- ---- how many words the sheet needs by its counts and its pool's kind: all up to the end of its last section. Proofs go by the order of the sections in it (NeededLaws.antt).

-- the words of the fourth section with its count
abbrev pub irb_words : List ℕ → ℕ
irb_words s = cond (has_irb s) (1 + irb_size * irb_rows) 0

unfoldable pub needed : List ℕ → ℕ
needed s = irb_at s + irb_words s

-- ---- what is read of a sheet whose words are good: its facts, the places of its first pool row and of its first tranche, how many there are of each, and the figures of
-- its IRB section

unfoldable pub layout : List ℕ → Layout
layout s = record {
  kind = pool_kind s;
  resecuritisation = resecuritisation s;
  stc = stc s;
  diligence = due_diligence s;
  composition = composition_known s;
  reporting_date = reporting_date s;
  hundredths = in_hundredths s;
  first_row = pool_at s + 1;
  rows = rows s;
  first_tranche = tranches_at s + 1;
  tranches = tranche_count s;
  irb = irb_figures s;
}
