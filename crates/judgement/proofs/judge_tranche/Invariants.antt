-- `judge_tranche`: before each turn the words before the tranche's column are sound. No axioms.
use mathlib.Core.Path.{◌≡◌}
use Prim.Native.Nat.{◌+◌}
use Rattle.judgement.specs.DealSheet.{tranche_at}
use Rattle.judgement.specs.Refusals.{judged}
use Rattle.judgement.specs.Verdicts.{Sound}
use Rattle.judgement.proofs.judge_tranche.Given as goal

abbrev pub invariant-loop-column : goal.invariant-loop-column
invariant-loop-column l = judged l.s (tranche_at l.s l.i + l.column) ≡ Sound
