-- `Rows::marked`: before a row what is marked is that of the rows before it. No axioms.
use mathlib.Core.Path.{◌≡◌}
use Prim.Native.Nat.{max, ◌≤◌}
use Rattle.pool.specs.RowTotals.{marked_from}
use Rattle.pool.proofs.pool_rows.Rows.marked.Given as goal

abbrev pub invariant-loop-number : goal.invariant-loop-number
invariant-loop-number l = record {
  not_past : l.number ≤ max l.self.first l.self.end;
  so_far : l.m ≡ marked_from l.self.sheet.now.words.now l.self.first l.number;
}
