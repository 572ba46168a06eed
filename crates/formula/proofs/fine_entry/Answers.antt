-- `fine_entry`: the source's table of losses agrees with the rule of the entries at each place, by one computed test. No axioms.
use mathlib.Core.Path.{◌≡◌}
use Prim.Native.Nat.{◌+◌, ◌^◌}
use native.Mathlib.Omega.{arith}
use Rattle.series.specs.Series.{low, factorial}
use Rattle.series.specs.TableEntry.{entry}
use Rattle.series.proofs.Entries.{loss_and_entry}
use Rattle.formula.proofs.fine_entry.Goals.{After-from}
use Rattle.formula.proofs.fine_entry.Goals as goal
use Rattle.formula.proofs.fine_entry.Tie as tie
use Rattle.formula.proofs.fine_entry.Reads as reads
use Rattle.formula.proofs.fine_entry.Lts as lts

-- the list is the source's own, as it stands in the function's local
sum : (c : After-from) → c.from.result + entry c.args.m 1024 ≡ 2 ^ 32
unfolding low entry factorial
sum c =
    let losses = (lts.m6 tie.the-claims reads.Pre reads.Post c.before.before.before c.from-arg-1.given).1.1.1.0.now in
    loss_and_entry 1024 losses 64 tt c.args.m c.from.result c.requires c.from.ensures

pub returns : goal.returns
returns c = omega (arith, sum (goal.at.returns c).After-from)
