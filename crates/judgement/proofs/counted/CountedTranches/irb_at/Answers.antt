-- `irb_at` meets its contract: the place past the last tranche is that of the section's count. No axioms.
use native.Mathlib.Omega.{arith}
use Rattle.judgement.specs.DealSheet.{irb_at}
use Rattle.judgement.proofs.counted.CountedTranches.irb_at.Goals as goal

pub returns : goal.returns
unfolding irb_at
returns c = omega (arith, c.tranche_at.ensures, c.tranche_count.ensures)
