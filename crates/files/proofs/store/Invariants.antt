-- `store`: after i turns the bytes that are left to store are those of the words from i on. No axioms.
use mathlib.Core.Path.{◌≡◌}
use Prim.Native.Nat.{◌*◌}
use lib.ListN.{length, drop}
use lib.Seq.{sets}
use Rattle.files.specs.FileForm.{file_bytes}
use Rattle.files.proofs.store.Given as goal

abbrev pub invariant-loop-i : goal.invariant-loop-i
invariant-loop-i l = (length l.bytes ≡ length l.initial.bytes) × (sets l.bytes (8 * l.i) (file_bytes (drop l.i l.words)) ≡ sets l.initial.bytes 0 (file_bytes l.words))
