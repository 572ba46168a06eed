-- `sum_block`: where the words are good the sums are the block's, and a refusal by the words is handed on. No axioms.
use Rattle.std.proofs.lemmas.Result.{err_from_is_err_and}
use Rattle.judgement.proofs.WordsLaw.{good_numbers, bad_numbers}
use Rattle.pool.proofs.SummedPoolLaw.{summed_block, refused_block}
use Rattle.pool.proofs.sum_block.Goals as goal

pub returns-in_err-sheet : goal.returns-in_err-sheet
returns-in_err-sheet c =
    let refused = bad_numbers c.args.s.now _ c.in_err-sheet.ensures.result_value in
    let exit = err_from_is_err_and c.from_residual.result c.from_residual.ensures.1 in
    rw (exit.1, exit.2) (refused_block _ _ _ refused)

pub returns : goal.returns
returns c =
    let good = good_numbers c.args.s.now _ c.in_ok-sheet.ensures.result_value in
    summed_block _ _ _ good.0 (rw c.in_ok-sheet.ensures.words at c.block_or_none.ensures)
