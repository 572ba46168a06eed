-- `put_deal`: the first line, the tranches' lines and the total, one behind the other, are the deal's text. No axioms.
use Rattle.std.proofs.Common.{List, ◌++◌, ℕ, ◌≡◌, arith}
use Rattle.report.specs.BegunText.{behind}
use Rattle.report.specs.ReportText.{ascii, labelled, tranche_lines, total_line, deal_text}
use Rattle.report.proofs.TextLaws.{put_behind, same_room, length_labelled, length_tranche_lines}
use Rattle.report.proofs.lines.put_deal.Goals.{After-push_labelled, After-push_labelled-2}
use Rattle.report.proofs.lines.put_deal.Goals as goal

abbrev first_line : ℕ → ℕ → List ℕ
first_line charge n = labelled "charge " charge " tranches " n

first_written : (c : After-push_labelled) → c.push_labelled.new.self ≡ behind c.args.text.now (first_line c.args.weighed.charge c.args.weighed.count)
unfolding ascii labelled
first_written c = c.push_labelled.ensures

pub put_lines-requires : goal.put_lines-requires
unfolding ascii
put_lines-requires c =
    let w = c.args.weighed in
    let room = same_room (first_written (goal.at.put_lines-requires c).After-push_labelled) in
    (c.requires.0, c.requires.1, omega (arith, room, c.requires.2, length_labelled "charge " " tranches " w.charge w.count))

pub push_labelled-requires-2 : goal.push_labelled-requires-2
unfolding ascii
push_labelled-requires-2 c =
    let w = c.args.weighed in
    omega (
      arith,
      same_room (first_written (goal.at.push_labelled-requires-2 c).After-push_labelled),
      same_room c.put_lines.ensures,
      length_labelled "charge " " tranches " w.charge w.count,
      length_tranche_lines c.args.results.now w.count,
    )

total_written : (c : After-push_labelled-2) → c.push_labelled-2.new.self ≡ behind c.put_lines.new.text (total_line c.args.results.now c.args.weighed.count)
unfolding ascii labelled
total_written c = rw (c.column_sum-capital.ensures, c.column_sum-rwa.ensures) at c.push_labelled-2.ensures

pub returns : goal.returns
unfolding deal_text
returns c =
    let w = c.args.weighed in
    let ws = c.args.results.now in
    let lines = tranche_lines ws w.count in
    let total = total_line ws w.count in
    let first = first_line w.charge w.count in
    put_behind c.args.text.now (first ++ lines) total
    (put_behind c.args.text.now first lines (first_written (goal.at.returns c).After-push_labelled) c.put_lines.ensures)
    (total_written (goal.at.returns c).After-push_labelled-2)
