-- The text of a file, from what `deal_file::weigh_file` answers for it, and that it fits TEXT_ROOM bytes. No axioms.
use mathlib.Core.Bool.{Bool, true, false}
use mathlib.Core.List.{List}
use mathlib.Core.Path.{◌≡◌, refl, sym, ap, ◌∙◌}
use Prim.Native.Nat.{ℕ, ◌+◌, ◌*◌, ◌^◌, ◌≤◌, ◌<◌}
use native.Mathlib.Omega.{arith}
use lib.Dec.{eqb}
use lib.ListN.{length, get_or, drop}
use borrow.Author.Tests.{ne_eqb, eqb-true}
use Rattle.numbers.proofs.Tests.{at_cond}
use Rattle.deal.proofs.LineLaws.{length_lines, results_length}
use Rattle.deal.proofs.ReplyLaws.{reply_count_within, refused_number, reply_results, reply_amounts}
use Rattle.deal.specs.Results.{Reply, reply_of, reply_to, lines, results_after}
use Rattle.std.specs.Prelude.{Ok, Err}
use Rattle.faults.specs.Reasons.{number_of}
use Rattle.deal.specs.declared.Weighed.{Weighed}
use Rattle.judgement.specs.declared.Refusal.{Refusal}
use Rattle.limits.specs.SheetSize.{line_size, tranches_most, byte_limit, result_room}
use Rattle.files.specs.FileForm.{good_length, file_words, file_bytes}
use Rattle.files.proofs.FileLaws.{length_file_bytes, good_file, words_of_bytes}
use Rattle.deal_file.specs.FileAnswer.{file_reply, file_results}
use Rattle.deal_file.proofs.FileAnswerLaws.{reply_of_bad_length, reply_of_words, results_of_words, accepted_length}
use Rattle.report.specs.ReportText.{refusal_line, rwa_column, capital_column, deal_text, sheet_text, file_text, text_room}
use Rattle.report.proofs.TextLaws.{length_deal_text, length_refusal_line, deal_text_of_lines}

-- ---- the text of a sheet

-- what is written of the results is the text of the sheet's lines
weighed_text :
    (s old : List ℕ) (w : Weighed) → length old ≡ result_room → reply_of (Ok w) ≡ reply_to s (length old) →
    deal_text w.charge w.count (results_after s old) ≡ sheet_text s
unfolding sheet_text
weighed_text s old w room same =
    let number = ap (λ (a : Reply). a.number) same in
    let count = ap (λ (a : Reply). a.count) same in
    let charge = ap (λ (a : Reply). a.charge) same in
    let zero_number : (reply_to s (length old)).number ≡ 0 = sym number in
    rw (reply_results s old zero_number, ← room, ← number, ← count, ← charge)
    (deal_text_of_lines w.charge w.count (lines s w.count) (drop (line_size * w.count) old) (omega (arith, length_lines s w.count)))

-- ---- the text of a file

loaded_text : (file : List ℕ) → good_length file ≡ true → file_text file ≡ sheet_text (file_words file)
unfolding file_text sheet_text
loaded_text file good = rw (reply_of_words file result_room good)

pub bad_length_text : (file : List ℕ) → good_length file ≡ false → file_text file ≡ refusal_line 15 0
unfolding file_text
bad_length_text file bad = rw (reply_of_bad_length file result_room bad)

-- the file of words that a sheet may have, each of 64 bits, gets the text of these words; so does a sheet written by hand, by `made_words` and
-- `made_small` (SheetTextLaws.antt of `sheet_text`)
pub stored_text :
    (ws : List ℕ) → 8 * length ws ≤ byte_limit → ((i : ℕ) → i < length ws → get_or ws i 0 < 2 ^ 64) → file_text (file_bytes ws) ≡ sheet_text ws
stored_text ws few small =
    let size = length_file_bytes ws in
    let good = good_file (file_bytes ws) (omega (arith, size)) (omega (arith, size)) in
    loaded_text (file_bytes ws) good ∙ ap sheet_text (words_of_bytes ws small)

-- an accepted file has the answer and the results of its words
module _ (file old : List ℕ) (w : Weighed) (same : reply_of (Ok w) ≡ file_reply file (length old)) where
  length_good : good_length file ≡ true
  length_good = accepted_length file (length old) (sym (ap (λ (a : Reply). a.number) same))

  words_reply : reply_of (Ok w) ≡ reply_to (file_words file) (length old)
  words_reply = same ∙ reply_of_words file (length old) length_good

  -- there is room for their text, with sums of the amounts that fit 64 bits
  pub weighed_lines :
      {after : List ℕ} → length old ≡ result_room → after ≡ file_results file old →
      (w.count ≤ tranches_most) × (line_size * w.count ≤ length after) ×
      ((i c : ℕ) → i < w.count → rwa_column ≤ c → c ≤ capital_column → get_or after (line_size * i + c) 0 ≤ 125000000000000)
  weighed_lines room is =
      let s = file_words file in
      let results = is ∙ results_of_words file old length_good in
      let number : (reply_to s (length old)).number ≡ 0 = sym (ap (λ (a : Reply). a.number) words_reply) in
      let count = ap (λ (a : Reply). a.count) words_reply in
      let within = reply_count_within s (length old) number in (
        omega arith,
        omega (arith, ap length results, results_length s old),
        λ i c l least most. rw results (reply_amounts s old i c number (omega arith) (omega arith) (omega arith)),
      )

  pub weighed_file : {after : List ℕ} → length old ≡ result_room → after ≡ file_results file old → deal_text w.charge w.count after ≡ file_text file
  weighed_file room is =
      rw (is ∙ results_of_words file old length_good) (weighed_text (file_words file) old w room words_reply) ∙ sym (loaded_text file length_good)

-- a refused file's number is not 0
refused_file_number : (file : List ℕ) (room : ℕ) (r : Refusal) → reply_of (Err r) ≡ file_reply file room → number_of r.reason ≡ 0 → ⊥
refused_file_number file room r same z =
    let number = ap (λ (a : Reply). a.number) same in
    refused_number (file_words file) room r (same ∙ reply_of_words file room (accepted_length file room (sym number ∙ z))) z

pub refused_file : (file : List ℕ) (r : Refusal) → reply_of (Err r) ≡ file_reply file result_room → refusal_line (number_of r.reason) r.place ≡ file_text file
unfolding file_text
refused_file file r same =
    let number = ap (λ (a : Reply). a.number) same in
    let place = ap (λ (a : Reply). a.place) same in
    rw (← number, ← place, ne_eqb (number_of r.reason) 0 (refused_file_number file result_room r same))

sheet_text_fits : (s : List ℕ) → length (sheet_text s) ≤ text_room
unfolding sheet_text
sheet_text_fits s =
    let a = reply_to s result_room in
    at_cond (λ (t : List ℕ). length t ≤ text_room) (eqb a.number 0) _ _
    (λ zero_number. length_deal_text a.charge a.count (lines s a.count) (reply_count_within s result_room (eqb-true _ _ zero_number)).1)
    (λ _. length_refusal_line a.number a.place)

pub file_text_fits : (file : List ℕ) → length (file_text file) ≤ text_room
file_text_fits file = by_length (good_length file) refl
  where
    by_length : (b : Bool) → good_length file ≡ b → length (file_text file) ≤ text_room
    by_length true e = rw (loaded_text file e) (sheet_text_fits (file_words file))
    by_length false e = rw (bad_length_text file e) (length_refusal_line 15 0)
