-- `put_block`: number and rows of the block, each with a space after it, and its sums behind them. No axioms.
use Rattle.std.proofs.Common.{◌+◌, ◌*◌, ap, ◌∙◌, arith}
use Rattle.report.specs.BegunText.{behind}
use Rattle.report.proofs.TextLaws.{same_room, length_number}
use Rattle.report.proofs.LineSteps.{number_behind}
use Rattle.report.proofs.PortfolioLaws.{block_line_is}
use Rattle.report.proofs.totals.put_block.Goals as goal

pub push_number-requires-2 : goal.push_number-requires-2
push_number-requires-2 c = omega (arith, same_room c.push_number.ensures, length_number c.args.b 32)

pub push_number-requires-3 : goal.push_number-requires-3
push_number-requires-3 c =
    omega (
      arith,
      same_room c.push_number.ensures,
      same_room c.push_number-2.ensures,
      length_number c.args.b 32,
      length_number (50 * c.args.b + 1) 32,
    )

pub put_sums-requires : goal.put_sums-requires
put_sums-requires c =
    omega (
      arith,
      same_room c.push_number.ensures,
      same_room c.push_number-2.ensures,
      same_room c.push_number-3.ensures,
      length_number c.args.b 32,
      length_number (50 * c.args.b + 1) 32,
      length_number c.min-last.result 32,
    )

pub returns : goal.returns
returns c =
    let summed = number_behind c.push_number-2.new.self _ _ _ c.push_number-3.ensures c.put_sums.ensures in
    let ended = number_behind c.push_number.new.self _ _ _ c.push_number-2.ensures summed in
    let line = number_behind c.args.text.now _ _ _ c.push_number.ensures ended in
    line ∙ ap (behind c.args.text.now) (block_line_is c.args.n c.args.b _ _ c.args.q (omega arith) c.min-last.ensures)
