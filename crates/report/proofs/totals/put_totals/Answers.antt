-- `put_totals`: the lines of all blocks, and the pool's line behind them. No axioms.
use Rattle.std.proofs.Common.{◌≡◌, ◌≤◌, arith}
use Rattle.limits.specs.SheetSize.{blocks_most}
use Rattle.judgement.proofs.LayoutLaws.{rows_is}
use Rattle.judgement.proofs.WordsLaw.{laid_out}
use Rattle.pool.specs.PoolSums.{pool_sums}
use Rattle.pool.specs.BlockSums.{blocks}
use Rattle.pool.proofs.BlockLaws.{blocks_counted}
use Rattle.report.specs.PortfolioText.{block_lines, pool_line, totals_text}
use Rattle.report.proofs.TextLaws.{put_behind, same_room}
use Rattle.report.proofs.PortfolioLaws.{length_block_lines}
use Rattle.report.proofs.totals.put_totals.Goals.{After-rounded_up-blocks}
use Rattle.report.proofs.totals.put_totals.Goals as goal

-- the blocks that are written are the sheet's
blocks_are :
    (c : After-rounded_up-blocks) → (c.rounded_up-blocks.result ≡ blocks c.args.sheet.now) × (c.rounded_up-blocks.result ≤ blocks_most)
blocks_are c =
    let opened = c.requires.0 in
    blocks_counted _ _ (laid_out _ _ opened.sound opened.is_layout) _ c.rounded_up-blocks.ensures

pub put_blocks-requires : goal.put_blocks-requires
put_blocks-requires c =
    let opened = c.requires.0 in
    let are = blocks_are (goal.at.put_blocks-requires c).After-rounded_up-blocks in
    (opened.sound, rows_is _ _ (laid_out _ _ opened.sound opened.is_layout), are.1, omega (arith, are.1, c.requires.1))

pub put_pool-requires : goal.put_pool-requires
put_pool-requires c =
    let are = blocks_are (goal.at.put_pool-requires c).After-rounded_up-blocks in
    omega (arith, same_room c.put_blocks.ensures, length_block_lines c.args.sheet.now c.rounded_up-blocks.result, are.1, c.requires.1)

pub returns : goal.returns
unfolding totals_text
returns c =
    let s = c.args.sheet.now in
    let all = (blocks_are (goal.at.returns c).After-rounded_up-blocks).0 in
    let lined = rw all at c.put_blocks.ensures in
    let pool = rw c.requires.0.are_sums at c.put_pool.ensures in
    put_behind c.args.text.now (block_lines s (blocks s)) (pool_line (pool_sums s)) lined pool
