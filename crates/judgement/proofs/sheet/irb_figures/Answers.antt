-- `irb_figures`: by the pool's kind zeros, or the words of the section's row. No axioms.
use mathlib.Core.Path.{sym, ◌∙◌}
use Rattle.judgement.specs.DealSheet.{irb_figures}
use Rattle.judgement.proofs.NeededLaws.{has_irb_lem, has_no_irb}
use Rattle.judgement.proofs.sheet.irb_figures.Goals as goal

pub returns-then-word_at-eq0 : goal.returns-then-word_at-eq0
unfolding irb_figures
returns-then-word_at-eq0 c =
    let s = c.args.s.now in
    simp (has_no_irb s (sym c.word_at.ensures ∙ c.if-word_at-eq0.true))

pub returns : goal.returns
unfolding irb_figures
returns c =
    let s = c.args.s.now in
    simp (
      has_irb_lem s (λ none. c.if-word_at-eq0.false (c.word_at.ensures ∙ none)),
      c.irb_word.ensures,
      c.irb_word-2.ensures,
      c.irb_word-3.ensures,
      c.irb_word-4.ensures,
      c.irb_word-5.ensures,
      c.irb_word-6.ensures,
    )
