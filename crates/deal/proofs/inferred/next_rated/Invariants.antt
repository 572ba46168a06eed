-- `next_rated`: after each turn the table is filled from the turn's row on, and `first` is what that row has. No
-- axioms.
use Rattle.deal.specs.NextRated.{FirstRatedFrom, NextRated}
use Rattle.deal.proofs.inferred.next_rated.Given as goal

abbrev pub invariant-loop-j : goal.invariant-loop-j
invariant-loop-j l = NextRated l.sheet.words.now l.next l.j × FirstRatedFrom l.sheet.words.now l.j l.first
