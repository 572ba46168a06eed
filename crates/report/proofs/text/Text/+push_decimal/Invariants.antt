-- `push_decimal`: the number is the measure. No axioms.
use Rattle.report.proofs.text.Text.+push_decimal.Given as goal

abbrev pub decreases-push_decimal : goal.decreases-push_decimal
decreases-push_decimal l = l.n
