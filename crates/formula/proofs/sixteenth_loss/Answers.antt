-- `sixteenth_loss`: the source's table of losses agrees with the rule of the entries at each place, by one computed test. No axioms.
use Rattle.series.specs.Series.{low, factorial}
use Rattle.series.specs.TableEntry.{entry}
use Rattle.series.proofs.Entries.{loss_and_entry}
use Rattle.formula.proofs.sixteenth_loss.Goals as goal
use Rattle.formula.proofs.sixteenth_loss.Tie as tie
use Rattle.formula.proofs.sixteenth_loss.Reads as reads
use Rattle.formula.proofs.sixteenth_loss.Lts as lts

-- the list is the source's own, as it stands in the function's local
pub returns : goal.returns
unfolding low entry factorial
returns c =
    let losses = (lts.m6 tie.the-claims reads.Pre reads.Post c.before.before.before c.from-arg-1.given).1.1.0.now in
    loss_and_entry 16 losses 16 tt c.args.n c.from.result c.requires c.from.ensures
