-- `put_row`: before each turn the words of the columns before it are written. No axioms.
use Rattle.std.proofs.Common.{take, drop, ◌≡◌}
use Rattle.std.proofs.lemmas.List.Edits.{sets}
use Rattle.amendment.proofs.put_row.Given as goal

abbrev pub invariant-loop-column : goal.invariant-loop-column
invariant-loop-column l = l.sheet ≡ sets l.initial.sheet l.at (take l.column (drop 1 l.m))
