-- The reporting date of a sheet and the unit of its risk weights by its layout, where the words of its rows and tranches stand, and how far down. No axioms.
use mathlib.Core.List.{List}
use mathlib.Core.Path.{◌≡◌, ap}
use Prim.Native.Nat.{ℕ, ◌+◌, ◌*◌, ◌≤◌, ◌<◌}
use native.Mathlib.Omega.{arith}
use lib.ListN.{length}
use Rattle.limits.specs.SheetSize.{place_limit}
use Rattle.judgement.specs.DealSheet.{reporting_date, in_hundredths, pool_at, rows, row_at, tranches_at, tranche_count, tranche_at, layout}
use Rattle.judgement.specs.LaidOut.{LaidOut}
use Rattle.judgement.specs.declared.Layout.{Layout}
use Rattle.judgement.proofs.SheetLimits.{row_at_most, tranche_at_most, pool_counted, tranches_counted, row_word_there, tranche_word_there}

module _ (s : List ℕ) (l : Layout) (h : LaidOut s l) where
  pub reporting_date_is : l.reporting_date ≡ reporting_date s
  unfolding layout
  reporting_date_is = ap (λ (m : Layout). m.reporting_date) h.is_layout

  pub hundredths_is : l.hundredths ≡ in_hundredths s
  unfolding layout
  hundredths_is = ap (λ (m : Layout). m.hundredths) h.is_layout

  pub first_row_is : l.first_row ≡ pool_at s + 1
  unfolding layout
  first_row_is = ap (λ (m : Layout). m.first_row) h.is_layout

  pub rows_is : l.rows ≡ rows s
  unfolding layout
  rows_is = ap (λ (m : Layout). m.rows) h.is_layout

  pub first_tranche_is : l.first_tranche ≡ tranches_at s + 1
  unfolding layout
  first_tranche_is = ap (λ (m : Layout). m.first_tranche) h.is_layout

  pub tranches_is : l.tranches ≡ tranche_count s
  unfolding layout
  tranches_is = ap (λ (m : Layout). m.tranches) h.is_layout

  -- the place of a row's word, and of a tranche's
  module _ (i c : ℕ) where
    pub row_place : i < rows s → c < 4 → (l.first_row + 4 * i + c ≡ row_at s i + c) × ((row_at s i + c < length s) × (row_at s i ≤ place_limit))
    row_place row column =
        (omega (arith, first_row_is), (row_word_there s i c h.good row column, row_at_most s i (pool_counted s h.good) (omega arith)))

    pub tranche_place :
        i < tranche_count s → c < 7 →
        (l.first_tranche + 7 * i + c ≡ tranche_at s i + c) × ((tranche_at s i + c < length s) × (tranche_at s i ≤ place_limit))
    tranche_place row column = (
      omega (arith, first_tranche_is),
      (tranche_word_there s i c h.good row column, tranche_at_most s i (tranches_counted s h.good) (omega arith)),
    )
