-- `load_words`: after i turns the words are the file's first i and the rest of what was there. No axioms.
use native.Mathlib.Omega.{arith}
use lib.ListN.{length-set}
use Rattle.files.proofs.FileSteps.{word_read, word_loaded}
use Rattle.files.proofs.load_words.Goals as goal

pub loop-i-preserved : goal.loop-i-preserved
loop-i-preserved c =
    let l = c.loop-i in
    let x = c.args in (
      simp length-set l.invariant.0,
      word_loaded x.file.now x.words.now l.i (omega arith) l.invariant.1 (word_read x.file.now l.i _ c.as_chunks.ensures.front (omega (arith, c.as_chunks.ensures.front_len)) c.from_le_bytes.ensures),
    )
