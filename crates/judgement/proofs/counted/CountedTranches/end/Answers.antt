-- `end`: by the pool's kind the sheet ends with its tranches or with the IRB section. No axioms.
use mathlib.Core.Path.{sym, ◌∙◌}
use native.Mathlib.Omega.{arith}
use Rattle.judgement.proofs.NeededLaws.{has_irb_lem, has_no_irb, needed_is, irb_words_lem, no_irb_words}
use Rattle.judgement.proofs.SheetLimits.{irb_at_most}
use Rattle.judgement.proofs.counted.CountedTranches.end.Goals as goal

pub returns-then-word_at-eq0 : goal.returns-then-word_at-eq0
returns-then-word_at-eq0 c =
    let s = c.args.self.words.now in
    omega (arith, c.irb_at-end.ensures, needed_is s, no_irb_words s (has_no_irb s (sym c.word_at.ensures ∙ c.if-word_at-eq0.true)))

pub overflow_add-result : goal.overflow_add-result
overflow_add-result c =
    omega (arith, c.irb_at-end.ensures, irb_at_most c.args.self.words.now c.args.self.counted)

pub overflow_add-result-2 : goal.overflow_add-result-2
overflow_add-result-2 c =
    omega (arith, c.irb_at-end.ensures, irb_at_most c.args.self.words.now c.args.self.counted)

pub returns : goal.returns
returns c =
    let s = c.args.self.words.now in
    omega (
      arith,
      c.irb_at-end.ensures,
      needed_is s,
      irb_words_lem s (has_irb_lem s (λ none. c.if-word_at-eq0.false (c.word_at.ensures ∙ none))),
    )
