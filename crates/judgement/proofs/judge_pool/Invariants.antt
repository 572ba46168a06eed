-- `judge_pool`: a fault of the facts or of the count stays, and before each turn the words before row i are sound. No
-- axioms.
use mathlib.Core.Path.{◌≡◌}
use Rattle.judgement.specs.DealSheet.{row_at}
use Rattle.judgement.specs.Refusals.{judged}
use Rattle.judgement.specs.Verdicts.{Sound}
use Rattle.judgement.proofs.judge_pool.Given as goal

abbrev pub invariant-loop-i : goal.invariant-loop-i
invariant-loop-i l = judged l.s (row_at l.s l.i) ≡ Sound
