-- 01, "The deal sheet", and 02, S-1, S-3, S-5 and S-9, in plain relations: the limits that a good fact, pool row, tranche row and IRB section keep. That a word keeps them just where it has no fault
-- (WordFaults.antt; a fact stands at place 1 or after) is proved in proofs/GoodWordsLaw.antt.
use Rattle.std.specs.Prelude.{Bool, true, false, ◌⊎◌, ◌≡◌, ℕ, ◌+◌, ◌≤◌, ◌<◌}
use Rattle.rating_codes.specs.RatingCodes.{listed}
use Rattle.dates.specs.Calendar.{Day}
use Rattle.dates.specs.Maturity.{maturity_months}

-- "pool kind (0 SA, 1 IRB, 2 mixed); re-securitisation; due diligence held; pool composition known. The last three are 0 no, 1 yes." The kind is at
-- place 1. 02, S-1: "A fifth fact says so (0 no, 1 yes)"; "An STC mark on a re-securitisation gets 16": none is good there. S-3: "A sixth
-- fact is the reporting date, ...; 0 or absent means months as before." S-9: "A seventh fact is the unit of the risk weight word: 0 whole percent, 1 hundredths"
pub record GoodFact (resecuritised : Bool) (p w : ℕ) : Type 0 where
  pub pool_kind_good : p ≡ 1 → w ≤ 2
  pub code : 1 < p → (p ≡ 6 → ⊥) → w ≤ 1
  pub mark : p ≡ 5 → resecuritised ≡ true → w ≡ 0
  pub reporting_date_good : p ≡ 6 → (w ≡ 0) ⊎ Day w

-- "A row: exposure amount and nominal amount, each 1 to 10^10; risk weight in whole percent, 0 to 1250; status (0 paying, 1 delinquent, 2 not known,
-- 3 securitisation tranche).": a 3 in a re-securitisation and nowhere else. 02, S-9: "0 whole percent, 1 hundredths up to 125,000"
pub record GoodRow (resecuritised hundredths : Bool) (exposure nominal weight status : ℕ) : Type 0 where
  pub exposure_least : 1 ≤ exposure
  pub exposure_most : exposure ≤ 10000000000
  pub nominal_least : 1 ≤ nominal
  pub nominal_most : nominal ≤ 10000000000
  pub weight_percent : hundredths ≡ false → weight ≤ 1250
  pub weight_hundredths : hundredths ≡ true → weight ≤ 125000
  pub status_ordinary : resecuritised ≡ false → status ≤ 2
  pub status_resecuritised : resecuritised ≡ true → status ≡ 3

-- "A row: amount, 1 to 10^13; class; final legal maturity in months, 1 to 1200; amount held, 0 to the tranche amount; three rating words." 02, S-3: "With a date, the maturity
-- word is a date too.", after the reporting date, and "The 1 to 1200 limit then applies.", to its months
pub record GoodTranche (reporting_date amount maturity held first second third : ℕ) : Type 0 where
  pub amount_least : 1 ≤ amount
  pub amount_at_most : amount ≤ 10000000000000
  pub maturity_day : 0 < reporting_date → Day maturity
  pub maturity_after : 0 < reporting_date → reporting_date < maturity
  pub months_least : 1 ≤ maturity_months reporting_date maturity
  pub months_most : maturity_months reporting_date maturity ≤ 1200
  pub held_most : held ≤ amount
  pub first_listed : listed first ≡ true
  pub second_listed : listed second ≡ true
  pub third_listed : listed third ≡ true

-- "The first row has class 1; each next row has the class before it or one more."
abbrev pub NextClass : ℕ → ℕ → Type 0
NextClass before w = (w ≡ before) ⊎ (w ≡ before + 1)

pub record GoodClass (i before w : ℕ) : Type 0 where
  pub of_first : i ≡ 0 → w ≡ 1
  pub of_next : 0 < i → NextClass before w

-- 02, S-5: "IRB charge and average loss given default (millionths, to 10^6), effective number of loans (1 to 10^6), retail (0 or 1), share of exposure with an IRB charge
-- (10^6 for kind 1, 0 to 10^6 for kind 2), IRB average weight (...; to 125,000)"
pub record GoodIrb (kind charge loss loans retail share average : ℕ) : Type 0 where
  pub charge_most : charge ≤ 1000000
  pub loss_most : loss ≤ 1000000
  pub loans_least : 1 ≤ loans
  pub loans_most : loans ≤ 1000000
  pub retail_code : retail ≤ 1
  pub share_whole : kind ≡ 1 → share ≡ 1000000
  pub share_most : share ≤ 1000000
  pub average_most : average ≤ 125000
