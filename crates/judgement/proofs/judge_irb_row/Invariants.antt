-- `judge_irb_row`: before each turn the words before the row's column are sound. No axioms.
use mathlib.Core.Path.{◌≡◌}
use Rattle.judgement.specs.DealSheet.{irb_place}
use Rattle.judgement.specs.Refusals.{judged}
use Rattle.judgement.specs.Verdicts.{Sound}
use Rattle.judgement.proofs.judge_irb_row.Given as goal

abbrev pub invariant-loop-column : goal.invariant-loop-column
invariant-loop-column l = judged l.s (irb_place l.s l.column) ≡ Sound
