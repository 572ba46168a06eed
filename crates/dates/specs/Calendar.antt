-- 02, S-3: "the reporting date, written year × 10,000 + month × 100 + day, years 2000 to 2199, Gregorian": which words name a day.
use Rattle.std.specs.Prelude.{Bool, cond, not, ◌&&◌, ◌||◌, List, [], ◌∷◌, ◌≡◌, ℕ, ◌+◌, ◌*◌, ◌-◌, ◌/◌, ◌%◌, ◌≤◌, ◌<◌, eqb, get_or}
use Rattle.numbers.specs.Limits.{within}

-- ---- "written year × 10,000 + month × 100 + day": the parts of a word

abbrev pub year_of : ℕ → ℕ
year_of w = w / 10000

abbrev pub month_of : ℕ → ℕ
month_of w = w / 100 % 100

abbrev pub day_of : ℕ → ℕ
day_of w = w % 100

-- ---- "Gregorian"

-- the years that are multiples of 4 are leap years; of the multiples of 100 only those of 400
abbrev pub leap_year : ℕ → Bool
leap_year year = eqb (year % 4) 0 && (not (eqb (year % 100) 0) || eqb (year % 400) 0)

-- the days of each month, January to December, in a year that is no leap year
abbrev pub month_lengths : List ℕ
month_lengths = 31 ∷ 28 ∷ 31 ∷ 30 ∷ 31 ∷ 30 ∷ 31 ∷ 31 ∷ 30 ∷ 31 ∷ 30 ∷ 31 ∷ []

-- the days of a month, 1 to 12: February has 29 in a leap year
abbrev pub days_of_month : ℕ → ℕ → ℕ
days_of_month year month = cond (eqb month 2 && leap_year year) 29 (get_or month_lengths (month - 1) 0)

-- ---- "A date that does not exist or is outside those years", turned round: whether a word names a day of the years 2000 to 2199

unfoldable pub names_day : ℕ → Bool
names_day w =
    within 2000 2199 (year_of w) &&
    (within 1 12 (month_of w) &&
    within 1 (days_of_month (year_of w) (month_of w)) (day_of w))

-- the same in plain relations: some year, month and day that the calendar has, and the word is written from them. That the two say the same is proved in
-- proofs/CalendarLaws.antt.
pub record Day (w : ℕ) : Type 0 where
  pub year : ℕ
  pub month : ℕ
  pub day : ℕ
  pub written : w ≡ year * 10000 + month * 100 + day
  pub year_least : 2000 ≤ year
  pub year_most : year ≤ 2199
  pub month_least : 1 ≤ month
  pub month_most : month ≤ 12
  pub day_least : 1 ≤ day
  pub day_most : day ≤ days_of_month year month

-- ---- "not after": a day before another is in an earlier year, or in an earlier month of its year, or is an earlier day of its month. That its word is then the smaller, and
-- only then, is proved in proofs/CalendarLaws.antt.

pub data Before {v w : ℕ} (a : Day v) (b : Day w) : Type 0 where
  in_earlier_year : a.year < b.year → Before a b
  in_earlier_month : a.year ≡ b.year → a.month < b.month → Before a b
  on_earlier_day : a.year ≡ b.year → a.month ≡ b.month → a.day < b.day → Before a b
