-- `Rows::totals`: before a row the totals are those over the rows before it. No axioms.
use mathlib.Core.Bool.{true}
use mathlib.Core.Path.{◌≡◌}
use Prim.Native.Nat.{max, ◌≤◌}
use Rattle.pool.specs.RowTotals.{totals_from}
use Rattle.pool.proofs.pool_rows.Rows.totals.Given as goal

abbrev pub invariant-loop-number : goal.invariant-loop-number
invariant-loop-number l = record {
  not_past : l.number ≤ max l.self.first l.self.end;
  so_far : l.t ≡ totals_from l.self.sheet.now.words.now (λ k. true) l.self.first l.number;
}
