-- `open_pool`: where the words are good the sums are those of the sheet's pool, and a refusal by the words is handed on. No axioms.
use Rattle.std.proofs.lemmas.Result.{err_from_is_err_and}
use Rattle.judgement.proofs.WordsLaw.{good_numbers, bad_numbers}
use Rattle.pool.proofs.SummedPoolLaw.{opened_pool, refused_pool}
use Rattle.pool.proofs.open_pool.Goals as goal

pub returns-in_err-sheet : goal.returns-in_err-sheet
returns-in_err-sheet c =
    let refused = bad_numbers c.args.s.now _ c.in_err-sheet.ensures.result_value in
    let exit = err_from_is_err_and c.from_residual.result c.from_residual.ensures.1 in
    rw (exit.1, exit.2) (refused_pool _ _ refused)

pub returns : goal.returns
returns c =
    let good = good_numbers c.args.s.now _ c.in_ok-sheet.ensures.result_value in
    opened_pool _ _ good.0 (rw c.in_ok-sheet.ensures.words at c.pool_sums.ensures)
