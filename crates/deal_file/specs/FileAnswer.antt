-- 01, "Refusals, by who can cause them", and 02, S-6: the answer to a sheet's file, and the lent results as they are left. "15 (reading a file only): length not a
-- multiple of 8 or over ... bytes; place 0."; "15 comes before all."
use Rattle.std.specs.Prelude.{Err, true, cond, List, ◌≡◌, ℕ}
use Rattle.files.specs.FileForm.{good_length, file_words}
use Rattle.deal.specs.DemandThree.{KeepsDemandThree, KeepsSeventhWord}
use Rattle.deal.specs.Results.{Reply, reply_of, reply_to, results_after}
use Rattle.faults.specs.declared.Reason.TheVariants.{FileLength}

-- the numbers that a file is due, with room for that many result words
unfoldable pub file_reply : List ℕ → ℕ → Reply
file_reply file room = cond (good_length file) (reply_to (file_words file) room) (reply_of (Err (record { reason = FileLength; place = 0 })))

-- the results: those of the file's words, or as they were
unfoldable pub file_results : List ℕ → List ℕ → List ℕ
file_results file old = cond (good_length file) (results_after (file_words file) old) old

-- demand 3 of the results of a file
abbrev pub FileKeepsDemandThree : List ℕ → ℕ → List ℕ → Type 0
FileKeepsDemandThree file room results = good_length file ≡ true → KeepsDemandThree (file_words file) room results

-- S-6's limits of the seventh words in the results of a file
abbrev pub FileKeepsSeventhWord : List ℕ → ℕ → List ℕ → Type 0
FileKeepsSeventhWord file room results = good_length file ≡ true → KeepsSeventhWord (file_words file) room results
