-- `whole_entry`: the source's table of losses agrees with the rule of the entries at each place, by one computed test, and past its end the
-- rule gives 0. No axioms.
use mathlib.Core.Path.{◌≡◌, sym}
use Prim.Native.Nat.{◌+◌, ◌^◌}
use native.Mathlib.Omega.{arith}
use Rattle.series.specs.Series.{low, factorial}
use Rattle.series.specs.TableEntry.{entry}
use Rattle.series.proofs.EntryBounds.{whole_entry_zero}
use Rattle.series.proofs.Entries.{loss_and_entry}
use Rattle.formula.proofs.whole_entry.Goals.{After-from}
use Rattle.formula.proofs.whole_entry.Goals as goal
use Rattle.formula.proofs.whole_entry.Tie as tie
use Rattle.formula.proofs.whole_entry.Reads as reads
use Rattle.formula.proofs.whole_entry.Lts as lts

-- the list is the source's own, as it stands in the function's local
sum : (c : After-from) → c.from.result + entry c.args.n 1 ≡ 2 ^ 32
unfolding low entry factorial
sum c =
    let losses = (lts.m8 tie.the-claims reads.Pre reads.Post c.before.before.before c.from-arg-1.given).1.1.1.1.1.0.now in
    loss_and_entry 1 losses 23 tt c.args.n c.from.result (omega arith) c.from.ensures

pub returns-then-n-lt23 : goal.returns-then-n-lt23
returns-then-n-lt23 c = omega (arith, sum (goal.at.returns-then-n-lt23 c).After-from)

pub returns-else-n-lt23 : goal.returns-else-n-lt23
returns-else-n-lt23 c = sym (whole_entry_zero c.args.n (omega arith))
