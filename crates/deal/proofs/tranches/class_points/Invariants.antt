-- `class_points`: after j turns the table and the running sum are those of the first j tranches; 32 amounts of 10^13
-- fit 64 bits. No axioms.
use Rattle.deal.proofs.ClassPointsLaw.{Filled}
use Rattle.deal.proofs.tranches.class_points.Given as goal

abbrev pub invariant-loop-j : goal.invariant-loop-j
invariant-loop-j l = Filled l.sheet.words.now l.nominal l.points l.sum l.j
