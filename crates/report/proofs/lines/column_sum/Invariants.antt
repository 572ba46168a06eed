-- `column_sum`: before turn i the sum of the first i lines is there. No axioms.
use Rattle.std.proofs.Common.{◌≡◌}
use Rattle.report.specs.ReportText.{column_sum}
use Rattle.report.proofs.lines.column_sum.Given as goal

abbrev pub invariant-loop-i : goal.invariant-loop-i
invariant-loop-i l = l.sum ≡ column_sum l.results l.column l.i
