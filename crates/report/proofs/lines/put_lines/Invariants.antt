-- `put_lines`: before turn i the lines of the first i tranches are written. No axioms.
use Rattle.std.proofs.Common.{◌≡◌}
use Rattle.report.specs.BegunText.{behind}
use Rattle.report.specs.ReportText.{tranche_lines}
use Rattle.report.proofs.lines.put_lines.Given as goal

abbrev pub invariant-loop-i : goal.invariant-loop-i
invariant-loop-i l = l.text ≡ behind l.initial.text (tranche_lines l.results l.i)
