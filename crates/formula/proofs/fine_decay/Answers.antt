-- `fine_decay`: no step leaves 64 bits, since the entry is from 2^31 to 2^32 and j is below 2^22. No axioms.
use Prim.Native.Nat.{◌*◌, ◌-◌, ◌^◌, ◌/◌, ◌≤◌}
use native.Mathlib.Omega.{arith}
use Rattle.formula.specs.FixedPoint.{fine_decay}
use Rattle.series.proofs.EntryBounds.{fine_entry_at_least}
use Rattle.formula.proofs.StepBounds.{fine_fall_at_most}
use Rattle.formula.proofs.fine_decay.Goals.{After-fine_entry-t}
use Rattle.formula.proofs.fine_decay.Goals as goal

-- what is taken off the entry is small beside it
module _ (c : After-fine_entry-t) where
  large_entry : 2 ^ 31 ≤ c.fine_entry-t.result
  large_entry = rw c.fine_entry-t.ensures (fine_entry_at_least c.args.m c.requires.0)

  small_fall : c.fine_entry-t.result * (c.args.j - c.args.j * c.args.j / 2 ^ 33) ≤ 2 ^ 54
  small_fall = rw c.fine_entry-t.ensures (fine_fall_at_most c.args.m c.args.j c.requires.1)

pub overflow_mul-result-3 : goal.overflow_mul-result-3
overflow_mul-result-3 c = omega (arith, small_fall (goal.at.overflow_mul-result-3 c).After-fine_entry-t)

pub overflow_sub-result-3 : goal.overflow_sub-result-3
overflow_sub-result-3 c = omega (arith, small_fall (goal.at.overflow_sub-result-3 c).After-fine_entry-t, large_entry (goal.at.overflow_sub-result-3 c).After-fine_entry-t)

pub returns : goal.returns
unfolding fine_decay
returns c = simp c.fine_entry-t.ensures
