-- 02, S-10, as a program in C gets it: a refusal's number as the function's result and its place through a lent number, the seven sums as lent words, in the order of `sum_words`.
use Rattle.std.specs.Prelude.{List, ◌≡◌, ℕ}
use Rattle.charge.specs.declared.Sums.{Sums}
use Rattle.judgement.specs.Outcome.{Outcome, refused_with, found}
use Rattle.pool.specs.BlockSums.{sum_words, sums_of}
use Rattle.pool.specs.SummedPool.{OpenedPool}
use Rattle.amendment.specs.Amendment.{amendment_numbers, sheet_after}

-- ---- number and place, 0 where there is no refusal

pub record RefusalReply : Type 0 where
  pub number : ℕ
  pub place : ℕ

-- from a function's result and what it leaves in the lent number
abbrev pub refusal_reply : ℕ → ℕ → RefusalReply
refusal_reply number place = record { number = number; place = place }

abbrev pub reply_for : {A : Type 0} → Outcome A → RefusalReply
reply_for (refused_with number place) = refusal_reply number place
reply_for (found a) = refusal_reply 0 0

-- ---- the words that are lent for the sums, by what a sheet is opened to: "A sheet that gets a refusal before 14 returns it and is not opened", and they are as they were

abbrev pub sums_after : Outcome Sums → List ℕ → List ℕ
sums_after (refused_with number place) old = old
sums_after (found q) old = sum_words q

-- ---- an answer of 1 for yes and 0 for no

pub data ToldByWord (answer : ℕ) (A : Type 0) : Type 0 where
  yes : answer ≡ 1 → A → ToldByWord answer A
  no : answer ≡ 0 → (A → ⊥) → ToldByWord answer A

-- ---- what an amendment m makes of an opened pool with the sheet s: number and place, the sheet s' and the words w of the sums, with which the pool is open again

pub record AmendedWords (s m : List ℕ) (reply : RefusalReply) (s' w : List ℕ) : Type 0 where
  pub reply_is : reply ≡ reply_for (amendment_numbers s m)
  pub sheet_is : s' ≡ sheet_after s m
  pub still_open : OpenedPool s' (sums_of w)
