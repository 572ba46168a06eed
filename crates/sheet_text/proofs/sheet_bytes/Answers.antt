-- `sheet_bytes`: the number of words decides, and the words stored are the text's. No axioms.
use Prim.Native.Nat.{ℕ}
use native.Mathlib.Omega.{arith}
use lib.ListN.{length-replicate}
use Rattle.sheet_text.proofs.ReadText.{too_many, makes_bytes}
use Rattle.sheet_text.proofs.sheet_bytes.Goals.{
  then-count-gt-WORD_LIMIT-via-then-count-gt-WORD_LIMIT,
  then-count-gt-WORD_LIMIT-via-else-count-gt-WORD_LIMIT+then-bytes-count,
}
use Rattle.sheet_text.proofs.sheet_bytes.Goals as goal

pub returns-then-count-gt-WORD_LIMIT : goal.returns-then-count-gt-WORD_LIMIT
returns-then-count-gt-WORD_LIMIT c =
    let a = too_many c.args.text.now c.args.bytes.now _ _ (c.in_ok-count.ensures).1
    (elim c.then-count-gt-WORD_LIMIT.branch [
      | then-count-gt-WORD_LIMIT-via-then-count-gt-WORD_LIMIT w ↦ omega arith
      | then-count-gt-WORD_LIMIT-via-else-count-gt-WORD_LIMIT+then-bytes-count w ↦ omega arith
    ]) in
    record { value = a.value; bytes_after = a.bytes_after }

pub returns : goal.returns
returns c =
    let a = makes_bytes c.args.text.now c.args.bytes.now c.read_words.new.words _ (c.in_ok-count.ensures).1
    (omega arith) (omega (arith, length-replicate {A = ℕ})) in
    record { value = a.value; bytes_after = rw c.store.ensures.bytes_after a.bytes_after }
