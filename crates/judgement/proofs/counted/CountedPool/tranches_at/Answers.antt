-- `tranches_at` meets its contract: the place past the last row is that of the tranches' count. No axioms.
use native.Mathlib.Omega.{arith}
use Rattle.judgement.specs.DealSheet.{tranches_at}
use Rattle.judgement.proofs.SheetLimits.{facts_counted_before}
use Rattle.judgement.proofs.counted.CountedPool.tranches_at.Goals as goal

pub row_count-requires : goal.row_count-requires
row_count-requires c = facts_counted_before _ c.args.self.counted

pub returns : goal.returns
unfolding tranches_at
returns c = omega arith
