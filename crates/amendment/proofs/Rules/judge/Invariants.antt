-- `Rules::judge`: before each turn the words before its place are sound. No axioms.
use mathlib.Core.Path.{◌≡◌}
use Rattle.judgement.specs.Verdicts.{Sound}
use Rattle.amendment.proofs.AmendmentSteps.{words_to}
use Rattle.amendment.proofs.Rules.judge.Given as goal

abbrev pub invariant-loop-p : goal.invariant-loop-p
invariant-loop-p l = words_to l.self.resecuritised l.self.hundredths l.self.rows l.m l.p ≡ Sound
