-- The months between two days: 02's own examples, that they are those of the calendar's years and months, at least 1 for a later day, and no fewer as
-- the maturity goes on. No axioms.
use mathlib.Core.Bool.{Bool, true, false, cond}
use mathlib.Core.Logic.{⊎_elim}
use mathlib.Core.Path.{◌≡◌, refl}
use Prim.Native.Nat.{ℕ, ◌+◌, ◌*◌, ◌≤◌, ◌<◌}
use native.Mathlib.Nat.{eq-or-lt_of_le, le_refl}
use native.Mathlib.Omega.{arith}
use lib.Dec.{ltb}
use borrow.Author.Tests.{ltb-true, ltb-false}
use Rattle.dates.specs.Calendar.{Day, Before, in_earlier_year, in_earlier_month, on_earlier_day}
use Rattle.dates.specs.Maturity.{month_count, months_between}
use Rattle.dates.proofs.CalendarLaws.{day_parts, before_when_smaller}

-- ---- "From 31 January to 28 February is one month; from 28 February to 31 March is two."

pub january_to_february : months_between 20260131 20260228 ≡ 1
unfolding months_between
january_to_february = refl

pub february_to_march : months_between 20260228 20260331 ≡ 2
unfolding months_between
february_to_march = refl

-- the same day of the month counts no further month, across a year's end too
pub same_day : months_between 20251115 20260115 ≡ 2
unfolding months_between
same_day = refl

-- ---- two days, the second after the first

-- the second is in the same month or in a later one
count_order : {v w : ℕ} (a : Day v) (b : Day w) → Before a b → 12 * a.year + a.month ≤ 12 * b.year + b.month
count_order a b (in_earlier_year years) = omega (arith, a.month_most, b.month_least)
count_order a b (in_earlier_month years months) = omega arith
count_order a b (on_earlier_day years months days) = omega arith

-- in a later one where its day of the month is not the later
count_later : {v w : ℕ} (a : Day v) (b : Day w) → Before a b → b.day ≤ a.day → 12 * a.year + a.month < 12 * b.year + b.month
count_later a b (in_earlier_year years) early = omega (arith, a.month_most, b.month_least)
count_later a b (in_earlier_month years months) early = omega arith
count_later a b (on_earlier_day years months days) early = absurd (omega arith)

-- ---- the months between two days

module _ (reporting_date maturity : ℕ) (from : Day reporting_date) (to : Day maturity) (after : reporting_date < maturity) where
  order : Before from to
  order = before_when_smaller from to after

  -- the counts of the months, by the days' years and months
  counts : (month_count reporting_date ≡ 12 * from.year + from.month) × (month_count maturity ≡ 12 * to.year + to.month)
  counts =
      let p = day_parts reporting_date from in
      let q = day_parts maturity to in
      (rw (p.year_is, p.month_is), rw (q.year_is, q.month_is))

  -- nothing is cut off in "12 × years apart + months apart"
  pub months_counted :
      months_between reporting_date maturity + (12 * from.year + from.month) ≡
      12 * to.year + to.month + cond (ltb from.day to.day) 1 0
  unfolding months_between
  months_counted =
      let p = day_parts reporting_date from in
      let q = day_parts maturity to in
      let months = count_order from to order in
      rw (counts.0, counts.1, p.day_is, q.day_is) (omega (arith, months))

  -- "a maturity not after the reporting date" has been refused, so the least of the limits is kept by every other
  pub months_least : 1 ≤ months_between reporting_date maturity
  months_least = by_day (ltb from.day to.day) refl
    where
      by_day : (later : Bool) → ltb from.day to.day ≡ later → 1 ≤ months_between reporting_date maturity
      by_day true e = omega (arith, rw e at months_counted, count_order from to order)
      by_day false e =
          omega (arith, rw e at months_counted, count_later from to order (omega (arith, ltb-false from.day to.day e)))

-- ---- two maturities, the second on the day of the first or after it

-- a second maturity whose month is not the earlier, and is the later where its day of the month is the earlier, counts no fewer months
counted_rising :
    (n n' a b b' d d' e : ℕ) (later later' : Bool) → n + a ≡ b + cond later 1 0 → n' + a ≡ b' + cond later' 1 0 →
    ltb e d ≡ later → ltb e d' ≡ later' → b ≤ b' → (d' < d → b < b') → n ≤ n'
counted_rising n n' a b b' d d' e true true is is' test test' order earlier = omega arith
counted_rising n n' a b b' d d' e true false is is' test test' order earlier =
    let strict = earlier (omega (arith, ltb-true e d test, ltb-false e d' test')) in
    omega arith
counted_rising n n' a b b' d d' e false later' is is' test test' order earlier = omega arith

-- the months do not fall as the maturity goes on
pub months_rising :
    (reporting_date first second : ℕ) → Day reporting_date → Day first → Day second → reporting_date < first → first ≤ second →
    months_between reporting_date first ≤ months_between reporting_date second
months_rising reporting_date first second from one two after later =
    ⊎_elim
    (λ same. rw same (le_refl _))
    (λ on.
    let o = before_when_smaller one two on in
    counted_rising _ _ _ _ _ one.day two.day from.day (ltb from.day one.day) (ltb from.day two.day)
    (months_counted reporting_date first from one after)
    (months_counted reporting_date second from two (omega arith))
    refl refl
    (count_order one two o)
    (λ early. count_later one two o (omega arith)))
    (eq-or-lt_of_le later)
