-- `judge_tranches`: a fault up to the tranches' count stays, and before each turn the words before tranche i are sound.
-- No axioms.
use mathlib.Core.Path.{◌≡◌}
use Rattle.judgement.specs.DealSheet.{tranche_at}
use Rattle.judgement.specs.Refusals.{judged}
use Rattle.judgement.specs.Verdicts.{Sound}
use Rattle.judgement.proofs.judge_tranches.Given as goal

abbrev pub invariant-loop-i : goal.invariant-loop-i
invariant-loop-i l = judged l.s (tranche_at l.s l.i) ≡ Sound
