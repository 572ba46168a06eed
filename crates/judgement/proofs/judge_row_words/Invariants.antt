-- `judge_row_words`: before each turn the words before the row's column are sound. No axioms.
use mathlib.Core.Path.{◌≡◌}
use Prim.Native.Nat.{◌+◌}
use Rattle.judgement.specs.DealSheet.{row_at}
use Rattle.judgement.specs.Refusals.{judged}
use Rattle.judgement.specs.Verdicts.{Sound}
use Rattle.judgement.proofs.judge_row_words.Given as goal

abbrev pub invariant-loop-column : goal.invariant-loop-column
invariant-loop-column l = judged l.s (row_at l.s l.i + l.column) ≡ Sound
