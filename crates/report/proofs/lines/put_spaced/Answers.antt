-- `put_spaced`: before each word the numbers before `next` are written, each with a space after it. No axioms.
use Rattle.std.proofs.Common.{◌≡◌, length, arith}
use Rattle.report.proofs.LineSteps.{number_put, last_put}
use Rattle.report.proofs.lines.put_spaced.Goals as goal

pub loop-word-preserved : goal.loop-word-preserved
loop-word-preserved c = number_put c.loop-word.word-index (omega arith) c.loop-word.invariant c.push_number.ensures

pub returns : goal.returns
returns c =
    let all : c.loop-word.word-index ≡ length c.args.words.now = omega arith in
    last_put (rw all at c.loop-word.invariant) c.push_number-2.ensures
