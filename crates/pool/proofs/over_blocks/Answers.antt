-- `over_blocks`: after some turns the sums are those of as many blocks; the blocks are at most 20 and reach the last row,
-- so over all of them the sums are the pool's. No axioms.
use mathlib.Core.List.{List}
use mathlib.Core.Path.{◌≡◌, ◌∙◌}
use Prim.Native.Nat.{ℕ, ◌≤◌, ◌<◌}
use native.Mathlib.Omega.{arith}
use lib.ListN.{length, get_or, take}
use Rattle.std.proofs.Common.{length-take}
use Rattle.limits.specs.SheetSize.{rows_most, block_size, blocks_most}
use Rattle.charge.specs.declared.Sums.{Sums}
use Rattle.pool.specs.BlockSums.{over_blocks, blocks, no_sums}
use Rattle.pool.specs.PoolSums.{pool_sums}
use Rattle.pool.specs.RowTotals.{SumsOfRows, Subtotals}
use Rattle.pool.proofs.BlockLaws.{over_none, over_next, over_limits, blocks_counted, filled_limits, filled_total, taken_filled}
use Rattle.pool.proofs.over_blocks.Goals.{After-subtotals-each}
use Rattle.pool.proofs.over_blocks.Goals as goal

-- what was made before the loop: the sums of all blocks
module _ (c : After-subtotals-each) where
  abbrev n : ℕ
  n = c.rounded_up-n.result

  abbrev each : List Sums
  each = take n c.subtotals-each.result

  abbrev s : List ℕ
  s = c.args.sheet.now.words.now

  counted : (n ≡ blocks s) × (n ≤ blocks_most)
  counted = blocks_counted s c.args.sheet.now.layout c.args.sheet.now.laid_out n c.rounded_up-n.ensures

  enough : n ≤ length c.subtotals-each.result
  enough = omega (arith, counted)

  taken : length each ≡ n
  taken = omega (arith, enough, length-take n c.subtotals-each.result)

  filled : Subtotals s n each
  filled = taken_filled s n c.subtotals-each.result c.subtotals-each.ensures

  within : (b : ℕ) → b < n → SumsOfRows (get_or each b no_sums) block_size
  within = filled_limits s c.args.sheet.now.laid_out.good n each filled

  total : over_blocks (λ b. get_or each b no_sums) n ≡ pool_sums s
  total = filled_total s c.args.sheet.now.laid_out.good n each filled counted.0

pub subtotals-each-requires : goal.subtotals-each-requires
subtotals-each-requires c =
    let sheet = c.args.sheet.now in
    (blocks_counted sheet.words.now sheet.layout sheet.laid_out c.rounded_up-n.result c.rounded_up-n.ensures).1

pub slice_bounds-each-end : goal.slice_bounds-each-end
slice_bounds-each-end c = enough (goal.at.slice_bounds-each-end c).After-subtotals-each

pub slice_bounds-block-items-end : goal.slice_bounds-block-items-end
slice_bounds-block-items-end c = omega (arith, taken (goal.at.slice_bounds-block-items-end c).After-subtotals-each)

pub loop-block-init : goal.loop-block-init
loop-block-init c = over_none _

pub with_block-q-requires : goal.with_block-q-requires
with_block-q-requires c =
    let l = c.loop-block in
    let w = (goal.at.with_block-q-requires c).After-subtotals-each in
    let below : l.block-index < n w = omega (arith, taken w) in
    let so_far = over_limits (λ k. get_or (each w) k no_sums) block_size l.block-index rows_most (omega (arith, counted w)) (λ k h. within w k (omega arith)) in
    (rw l.invariant so_far, within w l.block-index below)

pub loop-block-preserved : goal.loop-block-preserved
loop-block-preserved c =
    let l = c.loop-block in
    c.with_block-q.ensures ∙ rw l.invariant (over_next _ l.block-index)

pub returns : goal.returns
returns c =
    let l = c.loop-block in
    let w = (goal.at.returns c).After-subtotals-each in
    let all : l.block-index ≡ n w = omega (arith, taken w) in
    l.invariant ∙ rw all (total w)
