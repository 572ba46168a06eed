-- The faults of a reporting date and of a maturity at the edges of their rules; without a reporting date a maturity is judged by its months alone, and with one a 10 means
-- more than 1200 months. No axioms.
use mathlib.Core.Bool.{Bool, true, false, cond}
use mathlib.Core.Logic.{⊎_elim}
use mathlib.Core.Path.{◌≡◌, refl, sym, ◌∙◌}
use Prim.Native.Nat.{ℕ, ◌-◌, ◌≤◌, ◌<◌}
use native.Mathlib.Nat.{eq-zero-or-pos}
use native.Mathlib.Omega.{arith}
use borrow.Author.Tests.{ne_eqb}
use Rattle.numbers.proofs.Tests.{true_not_false, within_is}
use Rattle.dates.specs.Calendar.{names_day, Day}
use Rattle.dates.specs.Maturity.{months_between, maturity_months, maturity_allowed}
use Rattle.dates.proofs.MonthsLaws.{months_least}
use Rattle.dates.proofs.MaturityLaws.{later_day}
use Rattle.faults.specs.WordFaults.{unless, reporting_date_fault, months_in_limits, maturity_fault}

-- ---- "gets 17 at its own word"

pub reporting_dates : (reporting_date_fault 20260131 ≡ 0) × (reporting_date_fault 20260431 ≡ 17) × (reporting_date_fault 1 ≡ 17) × (reporting_date_fault 0 ≡ 0)
unfolding names_day
reporting_dates = (refl, refl, refl, refl)

-- the reporting date itself, a number of months, and a day before
pub no_later_days : (maturity_fault 20260131 20260131 ≡ 17) × (maturity_fault 20260131 36 ≡ 17) × (maturity_fault 20260131 20260130 ≡ 17)
unfolding names_day months_between
no_later_days = (refl, refl, refl)

-- "The 1 to 1200 limit then applies.": the next day, 1200 months and 1201
pub months_at_the_limits : (maturity_fault 20260131 20260201 ≡ 0) × (maturity_fault 20260131 21260131 ≡ 0) × (maturity_fault 20260131 21260201 ≡ 10)
unfolding names_day months_between
months_at_the_limits = (refl, refl, refl)

-- ---- "0 or absent means months as before."

pub fault_of_months : (w : ℕ) → maturity_fault 0 w ≡ unless 10 (months_in_limits w)
fault_of_months w = refl

-- ---- a later day is at least one month on, so a 10 means that it is more than 1200 months on

ten_means : (dated good : Bool) → cond dated (unless 10 good) 17 ≡ 10 → (dated ≡ true) × (good ≡ false)
ten_means true true e = absurd (omega arith)
ten_means true false e = (refl, refl)
ten_means false good e = absurd (omega arith)

above_most : (n : ℕ) → 1 ≤ n → months_in_limits n ≡ false → 1200 < n
above_most n least e =
    ⊎_elim
    (λ within. absurd (true_not_false (sym (within_is 1 1200 n least (omega arith)) ∙ e)))
    (λ above. omega arith)
    (eq-zero-or-pos (n - 1200))

pub too_many_months : (reporting_date w : ℕ) → Day reporting_date → maturity_fault reporting_date w ≡ 10 → 1200 < maturity_months reporting_date w
too_many_months reporting_date w from e =
    let set : 0 < reporting_date = omega (arith, from.written, from.year_least) in
    let both = ten_means (maturity_allowed reporting_date w) (months_in_limits (maturity_months reporting_date w)) e in
    let later = later_day reporting_date w both.0 set in
    above_most (maturity_months reporting_date w)
    (rw (ne_eqb reporting_date 0 (λ none. omega arith)) (months_least reporting_date w from later.1 later.0))
    both.1
