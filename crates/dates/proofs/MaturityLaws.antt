-- A maturity word by the reporting date: the words that are often taken wrong; where there is no reporting date the word is its own months, and where there is one it
-- passes just where it is a later day. No axioms.
use mathlib.Core.Bool.{true, false, ◌&&◌}
use mathlib.Core.Logic.{inl, inr, ⊎_elim}
use mathlib.Core.Path.{◌≡◌, refl}
use Prim.Native.Nat.{ℕ, ◌<◌}
use native.Mathlib.Nat.{eq-zero-or-pos}
use native.Mathlib.Omega.{arith}
use lib.Dec.{ltb, eqb}
use borrow.Author.Tests.{ltb-true, lt-ltb, eq-eqb, ne_eqb}
use Rattle.numbers.proofs.Tests.{both_true, true_either}
use Rattle.dates.specs.Calendar.{names_day, Day}
use Rattle.dates.specs.Maturity.{maturity_months, maturity_allowed}
use Rattle.dates.proofs.CalendarLaws.{day_named, named_day}

-- the next day, the reporting date itself, the day before, and a number of months
pub later_days_alone :
    (maturity_allowed 20260131 20260201 ≡ true) × (maturity_allowed 20260131 20260131 ≡ false) × (maturity_allowed 20260131 20260130 ≡ false) ×
    (maturity_allowed 20260131 36 ≡ false)
unfolding names_day
later_days_alone = (refl, refl, refl, refl)

-- "0 or absent means months as before."
pub months_as_written : (w : ℕ) → (maturity_months 0 w ≡ w) × (maturity_allowed 0 w ≡ true)
months_as_written w = (refl, refl)

module _ (reporting_date w : ℕ) where
  pub later_day : maturity_allowed reporting_date w ≡ true → 0 < reporting_date → (reporting_date < w) × Day w
  later_day e set =
      let both = both_true (ltb reporting_date w) (names_day w) (rw (ne_eqb reporting_date 0 (λ z. omega arith)) at e) in
      (ltb-true reporting_date w both.0, day_named w both.1)

  pub day_later : (0 < reporting_date → reporting_date < w) → (0 < reporting_date → Day w) → maturity_allowed reporting_date w ≡ true
  day_later after day =
      ⊎_elim
      (λ none. true_either (eqb reporting_date 0) (ltb reporting_date w && names_day w) (inl (eq-eqb reporting_date 0 none)))
      (λ set.
      true_either (eqb reporting_date 0) (ltb reporting_date w && names_day w)
      (inr (simp (lt-ltb reporting_date w (after set), named_day w (day set)))))
      (eq-zero-or-pos reporting_date)
