-- `push_labelled`: there is room for each of the four pieces. No axioms.
use Rattle.std.proofs.Common.{arith}
use Rattle.files.proofs.DecimalLaws.{length_decimal}
use Rattle.report.proofs.TextLaws.{same_room}
use Rattle.report.proofs.text.Text.push_labelled.Goals as goal

pub push_decimal-requires : goal.push_decimal-requires
push_decimal-requires c = omega (arith, length_decimal c.args.n, same_room c.push_bytes.ensures)

pub push_bytes-requires-2 : goal.push_bytes-requires-2
push_bytes-requires-2 c = omega (arith, length_decimal c.args.n, same_room c.push_bytes.ensures, same_room c.push_decimal.ensures)

pub push_number-requires : goal.push_number-requires
push_number-requires c =
    omega (arith, length_decimal c.args.n, same_room c.push_bytes.ensures, same_room c.push_decimal.ensures, same_room c.push_bytes-2.ensures)
