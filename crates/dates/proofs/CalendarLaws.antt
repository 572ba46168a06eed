-- The calendar at the days that are often taken wrong, and over all 200 years; a word names a day just where some year, month and day of the calendar are written in
-- it; and the words of days are in the order of the days. No axioms.
use mathlib.Core.Bool.{true, false, ◌&&◌}
use mathlib.Core.Logic.{⊎_elim}
use mathlib.Core.Path.{◌≡◌, refl}
use Prim.Native.Nat.{ℕ, ◌+◌, ◌-◌, ◌≤◌, ◌<◌}
use native.Mathlib.Nat.{eq-or-lt_of_le}
use native.Mathlib.Omega.{arith}
use lib.Dec.{leb, eqb, leb→le}
use lib.ListN.{get_or}
use Rattle.numbers.specs.Limits.{within}
use Rattle.numbers.specs.Sum.{sum}
use Rattle.numbers.proofs.Table.{at_each}
use Rattle.numbers.proofs.Tests.{both_true, between_true, within_is, at_cond}
use Rattle.dates.specs.Calendar.{year_of, month_of, day_of, leap_year, month_lengths, days_of_month, names_day, Day, Before, in_earlier_year, in_earlier_month, on_earlier_day}

-- ---- leap years, and the ends of months and years

pub leap_years : (leap_year 2000 ≡ true) × (leap_year 2004 ≡ true) × (leap_year 2001 ≡ false) × (leap_year 2100 ≡ false)
leap_years = (refl, refl, refl, refl)

pub days_there : (names_day 20000229 ≡ true) × (names_day 20040229 ≡ true) × (names_day 20000101 ≡ true) × (names_day 21991231 ≡ true)
unfolding names_day
days_there = (refl, refl, refl, refl)

pub days_not_there :
    (names_day 21000229 ≡ false) × (names_day 20260431 ≡ false) × (names_day 22000101 ≡ false) × (names_day 19991231 ≡ false) × (names_day 20260100 ≡ false)
unfolding names_day
days_not_there = (refl, refl, refl, refl, refl)

-- the days of all months of the years 2000 to 2199
pub calendar_days : sum (λ year. sum (λ month. days_of_month (2000 + year) (month + 1)) 12) 200 ≡ 73049
unfolding sum
calendar_days = refl

-- ---- no month has more than 31 days

month_days_most : (year month : ℕ) → 1 ≤ month → month ≤ 12 → days_of_month year month ≤ 31
month_days_most year month least most =
    at_cond (λ n. n ≤ 31) (eqb month 2 && leap_year year) 29 (get_or month_lengths (month - 1) 0)
    (λ _. omega arith)
    (λ _. leb→le _ 31 (at_each (λ k. leb (get_or month_lengths k 0) 31) 12 tt (month - 1) (omega arith)))

-- ---- a word and its day

pub day_named : (w : ℕ) → names_day w ≡ true → Day w
unfolding names_day
day_named w e =
    let years = both_true (within 2000 2199 (year_of w)) _ e in
    let months = both_true (within 1 12 (month_of w)) _ years.1 in
    let year = between_true 2000 2199 (year_of w) years.0 in
    let month = between_true 1 12 (month_of w) months.0 in
    let day = between_true 1 _ (day_of w) months.1 in
    record {
      year = year_of w;
      month = month_of w;
      day = day_of w;
      written = omega arith;
      year_least = year.0;
      year_most = year.1;
      month_least = month.0;
      month_most = month.1;
      day_least = day.0;
      day_most = day.1;
    }

-- no day is past the 31st
pub day_within : (w : ℕ) (d : Day w) → d.day ≤ 31
day_within w d = omega (arith, d.day_most, month_days_most d.year d.month d.month_least d.month_most)

-- the parts of a day's word are its year, month and day
pub record Parts (w : ℕ) (d : Day w) : Type 0 where
  pub year_is : year_of w ≡ d.year
  pub month_is : month_of w ≡ d.month
  pub day_is : day_of w ≡ d.day

pub day_parts : (w : ℕ) (d : Day w) → Parts w d
day_parts w d =
    record {
      year_is = omega (arith, d.written, d.month_most, day_within w d);
      month_is = omega (arith, d.written, d.month_most, day_within w d);
      day_is = omega (arith, d.written, d.month_most, day_within w d);
    }

pub named_day : (w : ℕ) → Day w → names_day w ≡ true
unfolding names_day
named_day w d =
    let p = day_parts w d in
    simp (
      p.year_is,
      p.month_is,
      p.day_is,
      within_is 2000 2199 d.year d.year_least d.year_most,
      within_is 1 12 d.month d.month_least d.month_most,
      within_is 1 (days_of_month d.year d.month) d.day d.day_least d.day_most,
    )

-- ---- the order of days is that of their words

year_order : (v w : ℕ) (a : Day v) (b : Day w) → v < w → a.year ≤ b.year
year_order v w a b smaller = omega (arith, a.written, b.written, b.month_most, day_within w b)

month_order : (v w : ℕ) (a : Day v) (b : Day w) → v < w → a.year ≡ b.year → a.month ≤ b.month
month_order v w a b smaller same-year = omega (arith, a.written, b.written, day_within w b)

pub smaller_when_before : {v w : ℕ} (a : Day v) (b : Day w) → Before a b → v < w
smaller_when_before {v} {w} a b (in_earlier_year years) = omega (arith, a.written, b.written, a.month_most, day_within v a)
smaller_when_before {v} {w} a b (in_earlier_month years months) = omega (arith, a.written, b.written, day_within v a)
smaller_when_before {v} {w} a b (on_earlier_day years months days) = omega (arith, a.written, b.written)

pub before_when_smaller : {v w : ℕ} (a : Day v) (b : Day w) → v < w → Before a b
before_when_smaller {v} {w} a b smaller =
    ⊎_elim
    (λ same-year.
    ⊎_elim
    (λ same-month. on_earlier_day same-year same-month (omega (arith, a.written, b.written)))
    (λ months. in_earlier_month same-year months)
    (eq-or-lt_of_le (month_order v w a b smaller same-year)))
    (λ years. in_earlier_year years)
    (eq-or-lt_of_le (year_order v w a b smaller))
