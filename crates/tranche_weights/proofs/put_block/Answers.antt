-- `put_block`: the sums that are read are those of the answer's numbers. No axioms.
use mathlib.Core.Path.{ap, ◌∙◌}
use Rattle.pool.specs.BlockSums.{sum_words}
use Rattle.pool.proofs.SummedPoolLaw.{read_with_reason}
use Rattle.tranche_weights.proofs.BlockReplyLaw.{block_replied}
use Rattle.tranche_weights.proofs.put_block.Goals as goal

pub returns : goal.returns
returns c =
    let block = c.args.block in
    let read = read_with_reason block c.sums_read.ensures in
    block_replied block _ _ _ c.put_refusal.ensures (c.sum_words.ensures ∙ ap sum_words read)
