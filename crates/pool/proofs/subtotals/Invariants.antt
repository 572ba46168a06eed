-- `subtotals`: after b turns the first b sums of the array are those of the first b blocks. No axioms.
use mathlib.Core.Path.{◌≡◌}
use lib.ListN.{length}
use Rattle.limits.specs.SheetSize.{blocks_most}
use Rattle.pool.specs.RowTotals.{Subtotals}
use Rattle.pool.proofs.subtotals.Given as goal

abbrev pub invariant-loop-b : goal.invariant-loop-b
invariant-loop-b l = record {
  same_length : length l.each ≡ blocks_most;
  filled : Subtotals l.sheet.words.now l.b l.each;
}
