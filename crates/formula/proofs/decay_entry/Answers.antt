-- `decay_entry`: the source's table agrees with the rule of the entries at each place, by one computed test, and past its end the rule
-- gives 0. No axioms.
use mathlib.Core.Path.{sym}
use native.Mathlib.Omega.{arith}
use Rattle.series.specs.Series.{low, factorial}
use Rattle.series.specs.DecayTable.{DecayEntry}
use Rattle.series.specs.TableEntry.{entry}
use Rattle.numbers.proofs.Table.{entry_is}
use Rattle.numbers.proofs.Tests.{equal_keeps}
use Rattle.series.proofs.EntryBounds.{entry_zero}
use Rattle.series.proofs.Entries.{whole_part}
use Rattle.formula.proofs.decay_entry.Goals as goal
use Rattle.formula.proofs.decay_entry.Tie as tie
use Rattle.formula.proofs.decay_entry.Reads as reads
use Rattle.formula.proofs.decay_entry.Lts as lts

-- the list is the source's own, as it stands in the function's local
pub returns-then-n-lt355 : goal.returns-then-n-lt355
unfolding low entry factorial
returns-then-n-lt355 c =
    let table = (lts.m8 reads.Pre reads.Post tie.handed_clauses c.before.before c.result-1.given).1.1.1.1.0.now in
    let n = c.args.n in
    let kept = equal_keeps (DecayEntry n) (whole_part n) (entry_is (λ i. entry i 16) table 355 tt n (omega arith)) in
    record { value = kept.0; decay_entry = kept.1 }

pub returns-else-n-lt355 : goal.returns-else-n-lt355
returns-else-n-lt355 c =
    let n = c.args.n in
    let kept = equal_keeps (DecayEntry n) (whole_part n) (sym (entry_zero n (omega arith))) in
    record { value = kept.0; decay_entry = kept.1 }
