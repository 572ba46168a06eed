-- `put_blocks`: before turn b the lines of the first b blocks are written. No axioms.
use Rattle.std.proofs.Common.{ap, ◌∙◌, add-one, arith}
use Rattle.judgement.specs.DealSheet.{rows}
use Rattle.pool.specs.BlockSums.{block_sums}
use Rattle.pool.specs.SummedBlock.{sums_read}
use Rattle.pool.proofs.SummedPoolLaw.{read_with_reason}
use Rattle.report.specs.PortfolioText.{block_line, block_lines}
use Rattle.report.proofs.TextLaws.{put_behind, nothing_behind, same_room}
use Rattle.report.proofs.PortfolioLaws.{length_block_lines, block_read}
use Rattle.report.proofs.totals.put_blocks.Goals as goal

pub loop-b-init : goal.loop-b-init
unfolding block_lines
loop-b-init c = nothing_behind _

pub put_block-requires : goal.put_block-requires
put_block-requires c =
    (omega arith, omega (arith, same_room c.loop-b.invariant, length_block_lines c.args.sheet.now c.loop-b.b))

pub loop-b-preserved : goal.loop-b-preserved
unfolding block_lines
loop-b-preserved c =
    let s = c.args.sheet.now in
    let b = c.loop-b.b in
    let line = block_read s c.requires.0 c.args.n b _ c.requires.1 (read_with_reason c.sum_block-block.result c.sums_read.ensures ∙ ap sums_read c.sum_block-block.ensures) in
    rw (add-one b)
    (put_behind c.args.text.now (block_lines s b) (block_line (rows s) b (block_sums s b)) c.loop-b.invariant (rw line at c.put_block.ensures))
