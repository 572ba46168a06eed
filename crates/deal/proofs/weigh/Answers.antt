-- `weigh`: a refusal by the words is the sheet's verdict and leaves the results; else the pool is opened. No axioms.
use Rattle.judgement.proofs.JudgeSteps.{handed_on}
use Rattle.pool.proofs.SummedPoolLaw.{opened_means, refused_pool_means, opened_by_words}
use Rattle.deal.proofs.WeighSteps.{refused_by_words, refused_answer}
use Rattle.deal.proofs.weigh.Goals as goal

pub weigh_opened-requires : goal.weigh_opened-requires
weigh_opened-requires c = opened_by_words _ _ c.sum_words.ensures (opened_means _ _ c.in_ok-sums.ensures)

pub returns-in_err-sums : goal.returns-in_err-sums
returns-in_err-sums c =
    let both = refused_answer _ _ (handed_on c.from_residual.ensures.1) (refused_by_words _ _ (refused_pool_means _ _ c.in_err-sums.ensures)) in
    record { result_value = both.0; results_after = both.1.0; keeps_demand_three = both.1.1.0; keeps_seventh_word = both.1.1.1 }
