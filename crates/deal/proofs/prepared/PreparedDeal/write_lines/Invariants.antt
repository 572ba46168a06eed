-- `write_lines`: after i turns the results are the first i lines and the rest of what was there. No axioms.
use mathlib.Core.List.{◌++◌}
use mathlib.Core.Path.{◌≡◌}
use Prim.Native.Nat.{◌*◌}
use lib.ListN.{drop}
use Rattle.limits.specs.SheetSize.{line_size}
use Rattle.deal.specs.Results.{lines}
use Rattle.deal.proofs.prepared.PreparedDeal.write_lines.Given as goal

abbrev pub invariant-loop-i : goal.invariant-loop-i
invariant-loop-i l = l.results ≡ lines l.self.sheet.now.words.now l.i ++ drop (line_size * l.i) l.initial.results
