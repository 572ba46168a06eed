-- 02, S-9, the converter, and 01, "The deal sheet", for the file form: what becomes of a sheet's file that is converted, byte for byte. "15 comes before all."; the other refusals are those of the
-- file's words (Conversion.antt of `conversion`).
use Rattle.std.specs.Prelude.{cond, Result, Ok, Err, List, ◌++◌, ℕ, ◌*◌, ◌/◌, length, drop}
use Rattle.files.specs.FileForm.{good_length, file_words, file_bytes, bytes_fit}
use Rattle.judgement.specs.Outcome.{Outcome, outcome}
use Rattle.judgement.specs.Refusals.{refused}
use Rattle.judgement.specs.Verdicts.{Verdict, Sound, Faulty}
use Rattle.conversion.specs.RewrittenSheet.{rewritten}
use Rattle.conversion.specs.Conversion.{conversion_verdict}
use Rattle.faults.specs.declared.Reason.TheVariants.{NoRoom}
use Rattle.judgement.specs.declared.Refusal.{Refusal}

-- what is judged of a file and the room for the bytes of the rewritten one, eight to each word
unfoldable pub file_verdict : List ℕ → ℕ → Verdict
file_verdict file room = cond (good_length file) (conversion_verdict (file_words file) (room / 8)) (refused 15 0)

-- the numbers that a file is due, with room for that many bytes: a refusal's number and place, or how many words were written
unfoldable pub file_numbers : List ℕ → ℕ → Outcome ℕ
file_numbers file room = outcome (length (rewritten (file_words file))) (file_verdict file room)

-- lent bytes after the sheet s is converted: the file of the rewritten sheet, and the rest as it was; "a refusal writes nothing"
abbrev pub bytes_for : List ℕ → List ℕ → Verdict → List ℕ
bytes_for s old Sound = file_bytes (rewritten s) ++ drop (8 * length (rewritten s)) old
bytes_for s old (Faulty r) = old

unfoldable pub bytes_converted : List ℕ → List ℕ → List ℕ
bytes_converted file old = bytes_for (file_words file) old (file_verdict file (length old))

-- ---- for private contracts: words stored as bytes, or 14 where they do not fit

abbrev pub stored_as : List ℕ → List ℕ → Result ℕ Refusal
stored_as ws old = cond (bytes_fit ws old) (Ok (length ws)) (Err (record { reason = NoRoom; place = 0 }))
