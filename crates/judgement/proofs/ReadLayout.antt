-- What is read of a sheet whose words are not judged: its layout where no count is above its limit, as in every sheet with good words. No axioms.
use mathlib.Core.List.{List}
use mathlib.Core.Path.{◌≡◌}
use Prim.Native.Nat.{ℕ, ◌+◌, ◌*◌, ◌≤◌, ◌<◌}
use borrow.Author.Tests.{le-leb, lt-leb}
use Rattle.limits.specs.SheetSize.{facts_most, rows_most, tranches_most}
use Rattle.judgement.specs.DealSheet.{word, pool_at, rows, tranches_at, tranche_count, irb_at, needed, layout}
use Rattle.judgement.specs.ReadLayout.{no_layout, layout_read}
use Rattle.judgement.specs.Refusals.{judged}
use Rattle.judgement.specs.Verdicts.{Sound}
use Rattle.judgement.proofs.SheetLimits.{facts_within, facts_counted, rows_within, pool_counted, tranches_within, tranches_counted}

module _ (s : List ℕ) where
  -- ---- each count, read at its place
  module _ {f r : ℕ} (facts : f ≡ word s 0) (count : r ≡ word s (1 + f)) where
    pub rows_read : r ≡ rows s
    unfolding rows pool_at
    rows_read = rw facts at count

    pub pool_read : 1 + f ≡ pool_at s
    unfolding pool_at
    pool_read = rw facts

    pub count_read : 1 + f + 1 + 4 * r ≡ tranches_at s
    unfolding tranches_at
    count_read = rw (rows_read, pool_read)

    pub tranches_read : {t : ℕ} → t ≡ word s (1 + f + 1 + 4 * r) → t ≡ tranche_count s
    unfolding tranche_count
    tranches_read e = rw count_read at e

    pub end_read : {t : ℕ} → t ≡ word s (1 + f + 1 + 4 * r) → 1 + f + 1 + 4 * r + 1 + 7 * t ≡ irb_at s
    unfolding irb_at
    end_read e = rw (tranches_read e, count_read)

  -- ---- a count above its limit, and none

  pub facts_above : facts_most < word s 0 → no_layout ≡ layout_read s
  unfolding layout_read
  facts_above h = simp (lt-leb (word s 0) facts_most h)

  module _ (facts : word s 0 ≤ facts_most) where
    pub rows_above : rows_most < rows s → no_layout ≡ layout_read s
    unfolding layout_read
    rows_above h = simp (le-leb (word s 0) facts_most facts, lt-leb (rows s) rows_most h)

    module _ (few : rows s ≤ rows_most) where
      pub tranches_above : tranches_most < tranche_count s → no_layout ≡ layout_read s
      unfolding layout_read
      tranches_above h = simp (le-leb (word s 0) facts_most facts, le-leb (rows s) rows_most few, lt-leb (tranche_count s) tranches_most h)

      pub none_above : tranche_count s ≤ tranches_most → layout_read s ≡ layout s
      unfolding layout_read
      none_above h = simp (le-leb (word s 0) facts_most facts, le-leb (rows s) rows_most few, le-leb (tranche_count s) tranches_most h)

  -- of a sheet whose words are good it is the layout
  pub layout_read_lem : judged s (needed s) ≡ Sound → layout_read s ≡ layout s
  layout_read_lem good =
      none_above (facts_within s (facts_counted s good)).1 (rows_within s (pool_counted s good)).1 (tranches_within s (tranches_counted s good)).1
