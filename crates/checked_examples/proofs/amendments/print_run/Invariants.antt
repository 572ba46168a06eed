-- What is left of the list shrinks with each amendment, and before each the pool is open.
use Rattle.std.proofs.Common.{length, ◌+◌, ◌≤◌, ◌≡◌}
use Rattle.pool.specs.SummedPool.{OpenedPool}
use Rattle.checked_examples.proofs.amendments.print_run.Given as goal

abbrev pub invariant-loop-left : goal.invariant-loop-left
invariant-loop-left g l =
    (l.number + length l.left ≤ length l.list) × (length l.sheet ≡ length l.initial.sheet) × OpenedPool l.sheet l.sums

abbrev pub decreases-loop-left : goal.decreases-loop-left
decreases-loop-left g l = length l.left
