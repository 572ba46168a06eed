-- `copy_start`: after i turns the first i bytes are the piece's, and the rest is what was there. No axioms.
use mathlib.Core.Path.{refl}
use native.Mathlib.Omega.{arith}
use lib.ListN.{length-set}
use Rattle.report.proofs.TextLaws.{byte_copied}
use Rattle.report.proofs.text.copy_start.Goals as goal

pub loop-i-preserved : goal.loop-i-preserved
loop-i-preserved c =
    let l = c.loop-i in
    let x = c.args in
    (simp length-set l.invariant.0, byte_copied x.piece.now x.list.now l.i (omega arith) (omega arith) l.invariant.1 refl)
