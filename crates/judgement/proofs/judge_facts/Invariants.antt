-- `judge_facts`: the count of facts is judged first, and before each turn the words before place p are sound. No
-- axioms.
use mathlib.Core.Path.{◌≡◌}
use Rattle.judgement.specs.Refusals.{judged}
use Rattle.judgement.specs.Verdicts.{Sound}
use Rattle.judgement.proofs.judge_facts.Given as goal

abbrev pub invariant-loop-p : goal.invariant-loop-p
invariant-loop-p l = judged l.s l.p ≡ Sound
