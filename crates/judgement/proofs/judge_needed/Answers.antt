-- `judge_needed`: a fault up to the tranches stays; where they are sound the kind decides whether they end the sheet,
-- and else the section's count and row. No axioms.
use mathlib.Core.Bool.{true}
use mathlib.Core.Path.{◌≡◌, ◌∙◌, sym}
use native.Mathlib.Omega.{arith}
use Rattle.faults.specs.Reasons.{fault_number}
use Rattle.judgement.specs.DealSheet.{has_irb, irb_at, needed}
use Rattle.judgement.specs.Refusals.{fault, judged}
use Rattle.judgement.specs.Verdicts.{Sound}
use Rattle.judgement.proofs.NeededLaws.{has_irb_lem, has_no_irb, irb_at_past_tranches, needed_is, irb_words_lem, no_irb_words}
use Rattle.judgement.proofs.Judgement.{fault_of_irb_count}
use Rattle.judgement.proofs.JudgeSteps.{sound_before, handed_on, refusal_stays, word_sound, word_refused}
use Rattle.judgement.proofs.judge_needed.Goals.{After-count_fault, Else-word_at-eq0, In_ok-judge_tranches}
use Rattle.judgement.proofs.judge_needed.Goals as goal

-- behind the first `?` the words before the section are sound
sound : (c : In_ok-judge_tranches) → judged c.args.s.now (irb_at c.args.s.now) ≡ Sound
sound c = sound_before _ _ _ (sym c.in_ok-judge_tranches.ensures) (omega (arith, irb_at_past_tranches c.args.s.now))

-- behind the test of the kind the sheet has the section
has : (c : Else-word_at-eq0) → has_irb c.args.s.now ≡ true
has c = has_irb_lem c.args.s.now (λ none. c.if-word_at-eq0.false (c.word_at.ensures ∙ none))

-- the count's fault is that of its word
count_is : (c : After-count_fault) → fault c.args.s.now (irb_at c.args.s.now) ≡ fault_number c.count_fault.result
count_is c = fault_of_irb_count _ ∙ simp (c.count_fault.ensures, c.word_at-2.ensures, c.irb_at-at.ensures)

pub returns-in_err-judge_tranches : goal.returns-in_err-judge_tranches
returns-in_err-judge_tranches c =
    let s = c.args.s.now in
    refusal_stays _ _ _ (handed_on c.from_residual.ensures.1) c.in_err-judge_tranches.ensures (omega (arith, irb_at_past_tranches s, needed_is s))

pub returns-then-word_at-eq0 : goal.returns-then-word_at-eq0
returns-then-word_at-eq0 c =
    let s = c.args.s.now in
    let none = has_no_irb s (sym c.word_at.ensures ∙ c.if-word_at-eq0.true) in
    sym (sound_before s (needed s) _ (sound (goal.at.returns-then-word_at-eq0 c).In_ok-judge_tranches) (omega (arith, needed_is s, no_irb_words s none)))

pub invariant_of-sheet : goal.invariant_of-sheet
invariant_of-sheet c =
    let s = c.args.s.now in
    record { counted = sound_before s _ _ (sound (goal.at.invariant_of-sheet c).In_ok-judge_tranches) (omega (arith, irb_at_past_tranches s)) }

pub returns-in_err-judge_word : goal.returns-in_err-judge_word
returns-in_err-judge_word c =
    let s = c.args.s.now in
    let at = goal.at.returns-in_err-judge_word c in
    word_refused s (irb_at s) _ (sound at.In_ok-judge_tranches) (count_is at.After-count_fault)
    (handed_on c.from_residual-in_err-judge_word.ensures.1)
    (rw c.irb_at-at.ensures at c.in_err-judge_word.ensures)
    (omega (arith, needed_is s, irb_words_lem s (has at.Else-word_at-eq0)))

pub judge_irb_row-requires : goal.judge_irb_row-requires
judge_irb_row-requires c =
    let at = goal.at.judge_irb_row-requires c in (
      word_sound _ _ (sound at.In_ok-judge_tranches) (count_is at.After-count_fault)
          (rw c.irb_at-at.ensures at c.in_ok-judge_word.ensures),
      has at.Else-word_at-eq0,
    )
