-- 01, "The deal sheet", and 02, S-1, S-3, S-5 and S-9, in plain relations: the limits that every word of a good sheet keeps; those of a fact, a row, a tranche and the IRB section are
-- in GoodWords.antt of `faults`. That a sheet keeps them just when each word it needs is there and has no fault, and none follows (`WordsGood`, Judged.antt), is proved in
-- proofs/GoodSheetLaw.antt.
use Rattle.std.specs.Prelude.{true, List, ◌≡◌, ℕ, ◌-◌, ◌≤◌, ◌<◌, length}
use Rattle.limits.specs.SheetSize.{facts_least, facts_most, rows_most, tranches_most, irb_rows}
use Rattle.faults.specs.GoodWords.{GoodFact, GoodRow, GoodTranche, GoodClass, GoodIrb}
use Rattle.judgement.specs.DealSheet.{word, pool_kind, resecuritisation, reporting_date, in_hundredths, pool_at, rows, exposure, nominal, weight_word, status, tranche_count, amount, class, maturity, held, first_rating, second_rating, third_rating, has_irb, irb_at, irb_place, needed}

abbrev pub GoodRowOf : List ℕ → ℕ → Type 0
GoodRowOf s i = GoodRow (resecuritisation s) (in_hundredths s) (exposure s i) (nominal s i) (weight_word s i) (status s i)

abbrev pub GoodTrancheOf : List ℕ → ℕ → Type 0
GoodTrancheOf s i = GoodTranche (reporting_date s) (amount s i) (maturity s i) (held s i) (first_rating s i) (second_rating s i) (third_rating s i)

abbrev pub GoodIrbOf : List ℕ → Type 0
GoodIrbOf s =
    GoodIrb (pool_kind s) (word s (irb_place s 0)) (word s (irb_place s 1)) (word s (irb_place s 2)) (word s (irb_place s 3)) (word s (irb_place s 4))
    (word s (irb_place s 5))

-- "Facts, count 4", with S-1, S-3 and S-9 four to seven; "Pool, count 1 to 1,000.", "Tranches, count 1 to 32."; S-5: "Pool kinds 1 and 2 add a fourth section, count 1": the limits of
-- the counts are those of SheetSize.antt of `limits`
pub record GoodSheet (s : List ℕ) : Type 0 where
  pub facts_at_least : facts_least ≤ word s 0
  pub facts_at_most : word s 0 ≤ facts_most
  pub each_fact : (p : ℕ) → 1 ≤ p → p < pool_at s → GoodFact (resecuritisation s) p (word s p)
  pub rows_least : 1 ≤ rows s
  pub rows_at_most : rows s ≤ rows_most
  pub each_row : (i : ℕ) → i < rows s → GoodRowOf s i
  pub tranches_least : 1 ≤ tranche_count s
  pub tranches_at_most : tranche_count s ≤ tranches_most
  pub each_tranche : (i : ℕ) → i < tranche_count s → GoodTrancheOf s i
  pub each_class : (i : ℕ) → i < tranche_count s → GoodClass i (class s (i - 1)) (class s i)
  pub irb_count : has_irb s ≡ true → word s (irb_at s) ≡ irb_rows
  pub irb_row : has_irb s ≡ true → GoodIrbOf s
  pub length_is : length s ≡ needed s
