-- `figures_for`: sums and an IRB section within their limits have 02's figures, and sums within theirs 01's. No axioms.
use mathlib.Core.Path.{◌∙◌}
use Rattle.charge.proofs.FiguresLaws.{figures_within, irba_figures_within}
use Rattle.deal.proofs.figures_for.Goals as goal

pub returns-then-irba : goal.returns-then-irba
returns-then-irba c =
    simp (c.if-irba.true, c.irba_figures_of.ensures ∙ irba_figures_within c.args.f c.args.q c.requires.1 c.requires.0)

pub returns-else-irba : goal.returns-else-irba
returns-else-irba c =
    simp (c.if-irba.false, c.figures_of.ensures ∙ figures_within c.args.q c.requires.0)
