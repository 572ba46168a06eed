-- `judge_weights`: every weight passed is a whole percent; the first that is none decides. No axioms.
use mathlib.Core.Path.{◌≡◌}
use Rattle.judgement.specs.Refusals.{first_of}
use Rattle.judgement.specs.Verdicts.{Sound}
use Rattle.conversion.specs.Conversion.{percent_verdict}
use Rattle.conversion.proofs.judge_weights.Given as goal

abbrev pub invariant-loop-i : goal.invariant-loop-i
invariant-loop-i l = first_of (λ i. percent_verdict l.fn.sheet.words.now i) l.i ≡ Sound
