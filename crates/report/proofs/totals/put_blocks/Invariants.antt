-- `put_blocks`: before turn b the lines of the first b blocks are written. No axioms.
use Rattle.std.proofs.Common.{◌≡◌}
use Rattle.report.specs.BegunText.{behind}
use Rattle.report.specs.PortfolioText.{block_lines}
use Rattle.report.proofs.totals.put_blocks.Given as goal

abbrev pub invariant-loop-b : goal.invariant-loop-b
invariant-loop-b l = l.text ≡ behind l.initial.text (block_lines l.sheet l.b)
