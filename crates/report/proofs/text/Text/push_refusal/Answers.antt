-- `push_refusal`: the labelled line is the refusal's. No axioms.
use Rattle.report.specs.ReportText.{ascii, labelled}
use Rattle.report.proofs.text.Text.push_refusal.Goals as goal

pub returns : goal.returns
unfolding ascii labelled
returns c = rw c.number.ensures at c.push_labelled.ensures
