-- `store`: after i turns the bytes that are left to store are those of the words from i on. No axioms.
use mathlib.Core.Path.{refl, sym, ◌∙◌}
use Prim.Native.Nat.{◌*◌, ◌+◌, ◌-◌}
use native.Mathlib.Omega.{arith}
use borrow.Author.Tests.{le-leb}
use lib.ListN.{length}
use Rattle.files.proofs.FileLaws.{store_accepts}
use Rattle.files.proofs.FileSteps.{eight_stored, stored_length, word_stored, no_word_left, all_stored}
use Rattle.files.proofs.store.Goals as goal

pub loop-i-preserved : goal.loop-i-preserved
loop-i-preserved c =
    let l = c.loop-i in
    let x = c.args in
    let stored = eight_stored l.bytes (8 * l.i) (8 * l.i + 8 - 8 * l.i) _ (omega arith) (omega arith) (c.copy_from_slice.ensures.after ∙ c.to_le_bytes.ensures) in
    (stored_length _ _ _ stored ∙ l.invariant.0, word_stored x.words.now l.bytes l.i (8 * l.i) (omega arith) refl stored ∙ l.invariant.1)

pub returns-after-loop-i-clause-bytes_after : goal.returns-after-loop-i-clause-bytes_after
returns-after-loop-i-clause-bytes_after c =
    let l = c.loop-i in
    let ws = c.args.words.now in
    let old = c.args.bytes.now in
    no_word_left ws l.bytes l.i (omega arith) ∙ l.invariant.1 ∙ all_stored ws old (omega arith) ∙
    sym (store_accepts ws old (le-leb (8 * length ws) (length old) (omega arith)))
