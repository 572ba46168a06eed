-- `judge_facts`: the count of facts is judged first, and before each turn the words before place p are sound. No
-- axioms.
use mathlib.Core.Path.{◌≡◌, ◌∙◌, sym}
use native.Mathlib.Omega.{arith}
use Rattle.faults.specs.Reasons.{fault_number}
use Rattle.judgement.specs.DealSheet.{pool_at}
use Rattle.judgement.specs.Refusals.{fault}
use Rattle.judgement.proofs.Judgement.{fault_of_fact_count, fault_of_fact}
use Rattle.judgement.proofs.JudgeSteps.{none_judged, sound_before, handed_on, word_sound, word_refused}
use Rattle.judgement.proofs.judge_facts.Goals.{After-count_fault, After-fact_fault}
use Rattle.judgement.proofs.judge_facts.Goals as goal

-- the count's fault is that of the first word
count_is : (c : After-count_fault) → fault c.args.s.now 0 ≡ fault_number c.count_fault.result
count_is c = fault_of_fact_count _ ∙ simp (c.count_fault.ensures, c.word_at.ensures)

-- a fact's fault is that of its word
fact_is : (c : After-fact_fault) → fault c.args.s.now c.loop-p.p ≡ fault_number c.fact_fault.result
fact_is c =
    fault_of_fact c.args.s.now c.loop-p.p (omega arith) (omega arith) ∙
    simp (c.fact_fault.ensures, c.word_at-in-loop-p.ensures, c.word_at-resecuritised.ensures)

pub returns-in_err-judge_word : goal.returns-in_err-judge_word
unfolding pool_at
returns-in_err-judge_word c =
    word_refused _ 0 _ (none_judged _) (count_is (goal.at.returns-in_err-judge_word c).After-count_fault) (handed_on c.from_residual.ensures.1)
    c.in_err-judge_word.ensures (omega arith)

pub pool_at-p-end-requires : goal.pool_at-p-end-requires
pool_at-p-end-requires c = word_sound _ 0 (none_judged _) (count_is (goal.at.pool_at-p-end-requires c).After-count_fault) c.in_ok-judge_word.ensures

pub loop-p-init : goal.loop-p-init
loop-p-init c = word_sound _ 0 (none_judged _) (count_is (goal.at.loop-p-init c).After-count_fault) c.in_ok-judge_word.ensures

pub returns-in_err-judge_word-2 : goal.returns-in_err-judge_word-2
returns-in_err-judge_word-2 c =
    word_refused _ c.loop-p.p _ c.loop-p.invariant (fact_is (goal.at.returns-in_err-judge_word-2 c).After-fact_fault)
    (handed_on c.from_residual-in_err-judge_word-2.ensures.1) c.in_err-judge_word-2.ensures (omega arith)

pub loop-p-preserved : goal.loop-p-preserved
loop-p-preserved c =
    word_sound _ c.loop-p.p c.loop-p.invariant (fact_is (goal.at.loop-p-preserved c).After-fact_fault) c.in_ok-judge_word-2.ensures

pub returns : goal.returns
unfolding pool_at
returns c = sym (sound_before _ _ _ c.loop-p.invariant (omega arith))
