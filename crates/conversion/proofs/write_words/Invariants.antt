-- `write_words`: every word passed is the rewritten sheet's. No axioms.
use Rattle.std.proofs.Common.{◌≡◌, ℕ, ◌<◌, get_or}
use Rattle.conversion.specs.RewrittenSheet.{rewritten}
use Rattle.conversion.proofs.write_words.Given as goal

abbrev pub invariant-loop-p : goal.invariant-loop-p
invariant-loop-p l = (k : ℕ) → k < l.p → get_or l.output k 0 ≡ get_or (rewritten l.fn.sheet.words.now) k 0
