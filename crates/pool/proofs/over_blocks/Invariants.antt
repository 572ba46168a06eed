-- `over_blocks`: after some turns the sums are those of as many blocks; the blocks are at most 20 and reach the last row,
-- so over all of them the sums are the pool's. No axioms.
use mathlib.Core.Path.{◌≡◌}
use lib.ListN.{get_or}
use Rattle.pool.specs.BlockSums.{over_blocks, no_sums}
use Rattle.pool.proofs.over_blocks.Given as goal

abbrev pub invariant-loop-block : goal.invariant-loop-block
invariant-loop-block l = l.q ≡ over_blocks (λ k. get_or l.block-items k no_sums) l.block-index
