-- `push_number`: there is room for the digits of every number, and for the byte behind them. No axioms.
use Rattle.std.proofs.Common.{arith}
use Rattle.files.proofs.DecimalLaws.{length_decimal}
use Rattle.report.proofs.TextLaws.{same_room}
use Rattle.report.proofs.text.Text.push_number.Goals as goal

pub push_decimal-requires : goal.push_decimal-requires
push_decimal-requires c = omega (arith, length_decimal c.args.n)

pub push_byte-requires : goal.push_byte-requires
push_byte-requires c = omega (arith, length_decimal c.args.n, same_room c.push_decimal.ensures)
