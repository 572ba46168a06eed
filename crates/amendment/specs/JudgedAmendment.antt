-- 02, S-10, "A pool that is amended.", in plain relations: what each refusal of an amendment means, what it means that it is good, and what becomes of the sheet. That these and the definitions by steps
-- (Amendment.antt) say the same is proved in proofs/JudgedAmendment.antt.
use Rattle.std.specs.Prelude.{List, ◌≡◌, ℕ, ◌+◌, ◌≤◌, ◌<◌, length}
use Rattle.limits.specs.SheetSize.{row_size}
use Rattle.faults.specs.GoodWords.{GoodRow}
use Rattle.judgement.specs.DealSheet.{word, resecuritisation, in_hundredths, rows, row_at}
use Rattle.judgement.specs.JudgedWords.{WordsRefusalBy}
use Rattle.judgement.specs.Verdicts.{Refusal}
use Rattle.amendment.specs.Amendment.{amendment_size, amendment_fault, amended_row}

-- the fault of the word at place p of an amendment m of the sheet s
abbrev pub fault_at : List ℕ → List ℕ → ℕ → ℕ
fault_at s m p = amendment_fault (resecuritisation s) (in_hundredths s) (rows s) p (word m p)

-- "at the first bad word of the five counted from 0; fewer words get 1 at the amendment's length, more get 3 at 5": by the rule by which a sheet's words are judged, 3 last
abbrev pub AmendmentRefusal : List ℕ → List ℕ → Refusal → Type 0
AmendmentRefusal s m r = WordsRefusalBy (fault_at s m) (length m) amendment_size r

-- "An amendment is five words, the row number counted from 1 and then the row", of a row that is there, and a row that is good on loading
pub record GoodAmendment (s m : List ℕ) : Type 0 where
  pub five_words : length m ≡ amendment_size
  pub number_least : 1 ≤ word m 0
  pub number_most : word m 0 ≤ rows s
  pub good_row : GoodRow (resecuritisation s) (in_hundredths s) (word m 1) (word m 2) (word m 3) (word m 4)

-- "replaces one row": the row's four words are the amendment's last four, and every other word is as it was
pub record RowReplaced (s m s' : List ℕ) : Type 0 where
  pub same_length : length s' ≡ length s
  pub new_words : (c : ℕ) → c < row_size → word s' (row_at s (amended_row m) + c) ≡ word m (1 + c)
  pub words_before : (p : ℕ) → p < row_at s (amended_row m) → word s' p ≡ word s p
  pub words_behind : (p : ℕ) → row_at s (amended_row m) + row_size ≤ p → word s' p ≡ word s p
