-- No sheet whose words are good is too long for its file: a file that gets a 15 holds no such sheet. No axioms.
use mathlib.Core.Bool.{true}
use mathlib.Core.List.{List}
use mathlib.Core.Path.{◌≡◌}
use Prim.Native.Nat.{ℕ}
use native.Mathlib.Omega.{arith}
use Rattle.files.specs.FileForm.{good_length, file_bytes}
use Rattle.files.proofs.FileLaws.{length_file_bytes, good_file}
use Rattle.judgement.specs.Judged.{WordsGood}
use Rattle.judgement.proofs.JudgedLaws.{sheet_within}

pub good_sheet_file : (s : List ℕ) → WordsGood s → good_length (file_bytes s) ≡ true
good_sheet_file s good =
    good_file (file_bytes s) (omega (arith, length_file_bytes s)) (omega (arith, length_file_bytes s, sheet_within s good))
