-- The text of totals by portfolio: what each line is made of, and that no text is longer than its room. No axioms.
use mathlib.Core.Bool.{Bool, true, false}
use mathlib.Core.List.{List, [], ◌∷◌}
use mathlib.Core.Path.{◌≡◌, refl, ◌∙◌}
use Prim.Native.Nat.{ℕ, zero, suc, ◌+◌, ◌*◌, ◌≤◌}
use native.Mathlib.Omega.{arith}
use lib.ListN.{length, length-append}
use Rattle.limits.specs.SheetSize.{block_size}
use Rattle.numbers.specs.Sum.{block_start, block_end}
use Rattle.files.specs.FileForm.{good_length, file_words}
use Rattle.charge.specs.declared.Sums.{Sums}
use Rattle.judgement.specs.DealSheet.{rows}
use Rattle.judgement.specs.Refusals.{words_verdict}
use Rattle.judgement.specs.Verdicts.{Refusal, Verdict, Sound, Faulty}
use Rattle.judgement.proofs.JudgeSteps.{needed_sound}
use Rattle.pool.specs.PoolSums.{pool_sums}
use Rattle.pool.specs.BlockSums.{block_sums, blocks, sum_words}
use Rattle.pool.specs.SummedBlock.{block_numbers, sums_read}
use Rattle.pool.proofs.BlockLaws.{blocks_within}
use Rattle.report.specs.ReportText.{ascii, words_line, refusal_line, spaced_room}
use Rattle.report.specs.PortfolioText.{block_line, block_lines, pool_line, totals_text, totals_for, file_totals, totals_room}
use Rattle.report.proofs.TextLaws.{length_spaced, length_labelled}

-- ---- the text of a file

pub bad_length_totals : (file : List ℕ) → good_length file ≡ false → refusal_line 15 0 ≡ file_totals file
unfolding file_totals
bad_length_totals file bad = rw bad refl

pub loaded_totals : (file words : List ℕ) → good_length file ≡ true → words ≡ file_words file → totals_for words (words_verdict words) ≡ file_totals file
unfolding file_totals
loaded_totals file words good is = rw (good, is) refl

-- ---- lines

-- a block's line is that of its number, its rows and its sums
pub block_line_is :
    (n b first last : ℕ) (q : Sums) → first ≡ suc (block_start block_size b) → last ≡ block_end block_size n b →
    words_line (b ∷ first ∷ last ∷ sum_words q) ≡ block_line n b q
block_line_is n b first last q f l = rw (f, l) refl

-- of a sheet whose words are good the rows and the sums of a block are the sheet's
module _ (s : List ℕ) (sound : words_verdict s ≡ Sound) where
  sums_are : (b : ℕ) → sums_read (block_numbers s b) ≡ block_sums s b
  unfolding block_numbers
  sums_are b = rw sound refl

  pub block_read : (n b : ℕ) (q : Sums) → n ≡ rows s → q ≡ sums_read (block_numbers s b) → block_line n b q ≡ block_line (rows s) b (block_sums s b)
  block_read n b q all is = rw (all, is ∙ sums_are b) refl

-- ---- how long a text can be

pub length_block_lines : (s : List ℕ) (n : ℕ) → length (block_lines s n) ≤ spaced_room 9 * n
unfolding block_lines
length_block_lines s zero = omega arith
length_block_lines s (suc n) =
    let line = block_line (rows s) n (block_sums s n) in
    let words = suc (block_start block_size n) ∷ block_end block_size (rows s) n ∷ sum_words (block_sums s n) in
    omega (arith, length-append (block_lines s n) line, length_block_lines s n, length_spaced n words)

length_pool_line : (q : Sums) → length (pool_line q) ≤ 6 + spaced_room 6
unfolding ascii
length_pool_line q =
    omega (arith, length_spaced q.all.exposure (q.all.nominal ∷ q.all.weighted ∷ q.known.exposure ∷ q.known.nominal ∷ q.known.weighted ∷ q.late ∷ []))

length_totals_text : (s : List ℕ) → words_verdict s ≡ Sound → length (totals_text s) ≤ totals_room
unfolding totals_text
length_totals_text s sound =
    omega (
      arith,
      length-append (block_lines s (blocks s)) (pool_line (pool_sums s)),
      length_block_lines s (blocks s),
      (blocks_within s (needed_sound s sound)).1,
      length_pool_line (pool_sums s),
    )

length_refusal_totals : (number place : ℕ) → length (refusal_line number place) ≤ totals_room
unfolding ascii
length_refusal_totals number place = omega (arith, length_labelled "refused " " at " number place)

length_totals_for : (s : List ℕ) (v : Verdict) → words_verdict s ≡ v → length (totals_for s v) ≤ totals_room
length_totals_for s Sound sound = length_totals_text s sound
length_totals_for s (Faulty r) faulty = length_refusal_totals r.number r.place

pub file_totals_fit : (file : List ℕ) → length (file_totals file) ≤ totals_room
file_totals_fit file = by_length (good_length file) refl
  where
    by_length : (b : Bool) → good_length file ≡ b → length (file_totals file) ≤ totals_room
    by_length true e =
        let words = file_words file in
        rw (← loaded_totals file words e refl) (length_totals_for words (words_verdict words) refl)
    by_length false e = rw (← bad_length_totals file e) (length_refusal_totals 15 0)

-- ---- the text of a sheet

pub sound_text : (s : List ℕ) → words_verdict s ≡ Sound → totals_text s ≡ totals_for s (words_verdict s)
sound_text s sound = rw sound refl

pub faulty_text : (s : List ℕ) (r : Refusal) → words_verdict s ≡ Faulty r → refusal_line r.number r.place ≡ totals_for s (words_verdict s)
faulty_text s r faulty = rw faulty refl
