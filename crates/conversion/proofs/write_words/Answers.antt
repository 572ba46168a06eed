-- `write_words`: every word passed is the rewritten sheet's. No axioms.
use Rattle.std.proofs.Common.{◌<◌, ◌≢◌, length, arith, below_more, get_or-set_other, get_or-set_same}
use lib.Seq.{ext_get_or}
use Rattle.conversion.proofs.write_words.Goals as goal

pub loop-p-preserved : goal.loop-p-preserved
loop-p-preserved c =
    below_more _ _
    (λ k h. let other : k ≢ c.loop-p.p = omega arith in rw get_or-set_other (c.loop-p.invariant k h))
    (let within : c.loop-p.p < length c.loop-p.output = omega arith in rw get_or-set_same c.rewritten_word.ensures)

pub returns : goal.returns
returns c = ext_get_or 0 _ _ (omega arith) (λ k h. c.loop-p.invariant k (omega arith))
