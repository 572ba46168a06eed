-- `JudgedSheet::judge`: the layout is that of good words, so the words are laid out by it. No axioms.
use Rattle.judgement.proofs.WordsLaw.{good_numbers, laid_out}
use Rattle.judgement.proofs.judged.JudgedSheet.judge.Goals as goal

pub invariant_of-result : goal.invariant_of-result
invariant_of-result c =
    let both = good_numbers _ _ c.in_ok-layout.ensures.result_value in
    record { laid_out = laid_out _ _ both.0 both.1 }
