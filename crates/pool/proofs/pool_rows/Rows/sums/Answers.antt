-- `Rows::sums`: rows of unknown status are among all rows, and what is left without them is the rows of known status.
-- No axioms.
use mathlib.Core.List.{List}
use mathlib.Core.Path.{◌≡◌, ap}
use Prim.Native.Nat.{ℕ, ◌≤◌}
use Rattle.pool.specs.RowTotals.{totals_from, unknown}
use Rattle.pool.specs.declared.Marked.{Marked}
use Rattle.charge.specs.declared.Totals.{Totals}
use Rattle.pool.proofs.TotalsLaws.{unknown_among_all, sums_made}
use Rattle.pool.proofs.pool_rows.Rows.sums.Goals.{After-totals-all}
use Rattle.pool.proofs.pool_rows.Rows.sums.Goals as goal

-- the totals of all rows and of those of unknown status
module _ (c : After-totals-all) where
  abbrev s : List ℕ
  s = c.args.self.sheet.now.words.now

  abbrev all : Totals
  all = c.totals-all.result

  abbrev of_unknown : Totals
  of_unknown = c.marked-marked.result.unknown

  unknown_is : of_unknown ≡ totals_from s (λ i. unknown s i) c.args.self.first c.args.self.end
  unknown_is = ap (λ (m : Marked). m.unknown) c.marked-marked.ensures

  among : (of_unknown.exposure ≤ all.exposure) × ((of_unknown.nominal ≤ all.nominal) × (of_unknown.weighted ≤ all.weighted))
  among = unknown_among_all s c.args.self.first c.args.self.end all of_unknown c.totals-all.ensures unknown_is

pub overflow_sub-known : goal.overflow_sub-known
overflow_sub-known c = (among (goal.at.overflow_sub-known c).After-totals-all).0

pub overflow_sub-known-2 : goal.overflow_sub-known-2
overflow_sub-known-2 c = (among (goal.at.overflow_sub-known-2 c).After-totals-all).1.0

pub overflow_sub-known-3 : goal.overflow_sub-known-3
overflow_sub-known-3 c = (among (goal.at.overflow_sub-known-3 c).After-totals-all).1.1

pub returns : goal.returns
returns c =
    let x = c.args.self in
    let w = (goal.at.returns c).After-totals-all in
    sums_made (s w) x.first x.end (all w) (of_unknown w) c.totals-all.ensures (unknown_is w) c.marked-marked.result.late
    (ap (λ (m : Marked). m.late) c.marked-marked.ensures)
