-- `put_spaced`: before each word the numbers before `next` are written, each with a space after it. No axioms.
use Rattle.report.proofs.LineSteps.{StillToPut}
use Rattle.report.proofs.lines.put_spaced.Given as goal

abbrev pub invariant-loop-word : goal.invariant-loop-word
invariant-loop-word l = StillToPut l.initial.text l.n l.words l.text l.next l.word-index
