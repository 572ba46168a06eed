-- 02, S-3: the months between two days, and a tranche's maturity in months, however its word is written.
use Rattle.std.specs.Prelude.{Bool, cond, ◌&&◌, ◌||◌, ℕ, ◌+◌, ◌*◌, ◌-◌, ltb, eqb}
use Rattle.dates.specs.Calendar.{year_of, month_of, day_of, names_day}

-- a day's month, counted through the years, so that "12 × years apart + months apart" is the difference of two
abbrev pub month_count : ℕ → ℕ
month_count w = 12 * year_of w + month_of w

-- "Months are 12 × years apart + months apart, plus one when the maturity's day of the month is the later." Where the maturity's month is the earlier, none are apart; for a
-- later day nothing is cut off: `months_counted` (proofs/MonthsLaws.antt).
unfoldable pub months_between : ℕ → ℕ → ℕ
months_between reporting_date maturity = month_count maturity - month_count reporting_date + cond (ltb (day_of reporting_date) (day_of maturity)) 1 0

-- "0 or absent means months as before. With a date, the maturity word is a date too.": the months of a maturity word, by the reporting date or 0
abbrev pub maturity_months : ℕ → ℕ → ℕ
maturity_months reporting_date w = cond (eqb reporting_date 0) w (months_between reporting_date w)

-- "A date that does not exist or is outside those years, or a maturity not after the reporting date, gets 17": whether a maturity word is free of it, as any
-- word is where there is no reporting date, and where there is one a later day.
abbrev pub maturity_allowed : ℕ → ℕ → Bool
maturity_allowed reporting_date w = eqb reporting_date 0 || (ltb reporting_date w && names_day w)
