-- `judge_pool_count`: a fault of the facts stays, and after sound facts the count's verdict decides. No axioms.
use mathlib.Core.Path.{◌∙◌, sym}
use native.Mathlib.Omega.{arith}
use Rattle.judgement.specs.DealSheet.{pool_at}
use Rattle.judgement.proofs.Judgement.{fault_of_pool_count}
use Rattle.judgement.proofs.JudgeSteps.{sound_before, word_judged, handed_on, refusal_stays}
use Rattle.judgement.proofs.judge_pool_count.Goals as goal

pub returns-in_err-judge_facts : goal.returns-in_err-judge_facts
returns-in_err-judge_facts c = refusal_stays _ _ _ (handed_on c.from_residual.ensures.1) c.in_err-judge_facts.ensures (omega arith)

pub pool_at-requires : goal.pool_at-requires
unfolding pool_at
pool_at-requires c = sound_before _ _ _ (sym c.in_ok-judge_facts.ensures) (omega arith)

pub row_count-requires : goal.row_count-requires
unfolding pool_at
row_count-requires c = sound_before _ _ _ (sym c.in_ok-judge_facts.ensures) (omega arith)

pub returns : goal.returns
returns c =
    word_judged _ _ (sym c.in_ok-judge_facts.ensures) (fault_of_pool_count _)
    (c.judge_word.ensures ∙
    simp (
      c.count_fault.ensures,
      c.row_count.ensures,
      c.pool_at.ensures,
    ))
