-- `take_rows`: zeros are left where the deal infers none or no tranche is rated; else after i turns the table has what
-- the first i tranches take, which fits a byte. No axioms.
use Rattle.deal.proofs.NextRatedLaws.{TakenTo}
use Rattle.deal.proofs.inferred.take_rows.Given as goal

abbrev pub invariant-loop-i : goal.invariant-loop-i
invariant-loop-i l = TakenTo l.sheet.words.now l.taken l.i
