-- `put_lines`: before turn i the lines of the first i tranches are written. No axioms.
use Rattle.std.proofs.Common.{add-one, arith}
use Rattle.report.specs.ReportText.{tranche_line, tranche_lines}
use Rattle.report.proofs.TextLaws.{put_behind, nothing_behind, same_room, length_tranche_lines}
use Rattle.report.proofs.lines.put_lines.Goals as goal

pub loop-i-init : goal.loop-i-init
unfolding tranche_lines
loop-i-init c = nothing_behind _

pub put_line-requires : goal.put_line-requires
put_line-requires c =
    (omega arith, omega arith, omega (arith, same_room c.loop-i.invariant, length_tranche_lines c.args.results.now c.loop-i.i))

pub loop-i-preserved : goal.loop-i-preserved
unfolding tranche_lines
loop-i-preserved c =
    let ws = c.args.results.now in
    rw (add-one c.loop-i.i)
    (put_behind c.args.text.now (tranche_lines ws c.loop-i.i) (tranche_line ws c.loop-i.i) c.loop-i.invariant c.put_line.ensures)
