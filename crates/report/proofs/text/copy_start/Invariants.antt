-- `copy_start`: after i turns the first i bytes are the piece's, and the rest is what was there. No axioms.
use Rattle.std.proofs.Common.{length, take, drop, ◌++◌, ◌≡◌}
use Rattle.report.proofs.text.copy_start.Given as goal

abbrev pub invariant-loop-i : goal.invariant-loop-i
invariant-loop-i l = (length l.list ≡ length l.initial.list) × (l.list ≡ take l.i l.piece ++ drop l.i l.initial.list)
