-- What a sheet is opened to and what a block comes to is settled by the numbers; and what these say of the words and the sums. No axioms.
use mathlib.Core.List.{List}
use mathlib.Core.Path.{◌≡◌, refl, sym, ap, ◌∙◌, subst}
use Prim.Native.Nat.{ℕ}
use Rattle.std.specs.Prelude.{Result, Ok, Err}
use Rattle.charge.specs.declared.Sums.{Sums}
use Rattle.judgement.specs.Outcome.{found, refused_by, numbers_of}
use Rattle.judgement.specs.ReadLayout.{layout_read}
use Rattle.judgement.specs.Refusals.{words_verdict}
use Rattle.judgement.specs.declared.Layout.{Layout}
use Rattle.judgement.specs.Verdicts.{Refusal, Sound, Faulty, refusal_of}
use Rattle.judgement.specs.declared.Refusal.{Refusal as Declared}
use Rattle.judgement.proofs.JudgeSteps.{needed_sound}
use Rattle.judgement.proofs.ReadLayout.{layout_read_lem}
use Rattle.judgement.proofs.OutcomeLaws.{answer_of_numbers, found_not_refused, found_when, refused_when, found_means, refused_means}
use Rattle.pool.specs.PoolSums.{pool_sums}
use Rattle.pool.specs.BlockSums.{block_sums, sum_words, sums_of}
use Rattle.pool.specs.SummedBlock.{block_numbers, sums_read, numbers_by}
use Rattle.pool.specs.SummedPool.{OpenPool, OpenedPool, opened_numbers}

pub opening_settled : (v w : Result Sums Declared) → numbers_of v ≡ numbers_of w → v ≡ w
opening_settled = answer_of_numbers

pub block_settled : (v w : Result Sums Declared) → numbers_of v ≡ numbers_of w → v ≡ w
block_settled = answer_of_numbers

-- the sums that are read of an answer whose refusal has a reason
pub read_with_reason : (v : Result Sums Declared) {q : Sums} → ((refusal : Declared → Refusal) → q ≡ sums_read (numbers_by refusal v)) → q ≡ sums_read (numbers_of v)
read_with_reason (Ok q) read = read refusal_of
read_with_reason (Err r) read = read refusal_of

-- ---- from the words to the numbers

pub refused_pool : (s : List ℕ) (r : Refusal) → words_verdict s ≡ Faulty r → refused_by r ≡ opened_numbers s
unfolding opened_numbers
refused_pool s r e = refused_when r (pool_sums s) (words_verdict s) e

pub opened_pool : (s : List ℕ) (q : Sums) → words_verdict s ≡ Sound → q ≡ pool_sums s → found q ≡ opened_numbers s
unfolding opened_numbers
opened_pool s q sound sums = found_when q (pool_sums s) (words_verdict s) sound sums

pub refused_block : (s : List ℕ) (b : ℕ) (r : Refusal) → words_verdict s ≡ Faulty r → refused_by r ≡ block_numbers s b
unfolding block_numbers
refused_block s b r e = refused_when r (block_sums s b) (words_verdict s) e

pub summed_block : (s : List ℕ) (b : ℕ) (q : Sums) → words_verdict s ≡ Sound → q ≡ block_sums s b → found q ≡ block_numbers s b
unfolding block_numbers
summed_block s b q sound sums = found_when q (block_sums s b) (words_verdict s) sound sums

-- ---- and back

-- what a sheet is opened to is an opened pool
pub opened_means : (s : List ℕ) (q : Sums) → found q ≡ opened_numbers s → OpenedPool s q
unfolding opened_numbers
opened_means s q e =
    let both = found_means q (pool_sums s) (words_verdict s) e in
    record { sound = both.0; is_layout = refl; are_sums = both.1 }

pub refused_pool_means : (s : List ℕ) (r : Refusal) → refused_by r ≡ opened_numbers s → words_verdict s ≡ Faulty r
unfolding opened_numbers
refused_pool_means s r e = refused_means r (pool_sums s) (words_verdict s) e

-- a sheet that is refused is not opened
pub refused_is_not_open : (s : List ℕ) (q : Sums) (r : Refusal) → refused_by r ≡ opened_numbers s → OpenedPool s q → ⊥
refused_is_not_open s q r e pool = found_not_refused q r (opened_pool s q pool.sound pool.are_sums ∙ sym e)

-- what is read of an opened pool's sheet is its layout
pub open_read : (s : List ℕ) (l : Layout) (q : Sums) → OpenedPool s q → l ≡ layout_read s → OpenPool s l q
open_read s l q pool read =
    record { sound = pool.sound; is_layout = read ∙ layout_read_lem s (needed_sound s pool.sound); are_sums = pool.are_sums }

-- ---- sums as words

-- sums that are written as words are read back
pub read_back : (q : Sums) → sums_of (sum_words q) ≡ q
read_back q = refl

pub opened_by_words : (s w : List ℕ) {q : Sums} → w ≡ sum_words q → OpenedPool s q → OpenedPool s (sums_of w)
opened_by_words s w {q} written = subst (OpenedPool s) (sym (ap sums_of written ∙ read_back q))
