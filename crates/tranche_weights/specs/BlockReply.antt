-- 02, S-7: "Each block's sums can be read by a caller from a sheet, which gets only the refusals before 14": what a program in C gets, the refusal's number as the function's result, its
-- place and the seven sums through lent numbers.
use Rattle.std.specs.Prelude.{List, ℕ}
use Rattle.charge.specs.declared.Sums.{Sums}
use Rattle.judgement.specs.Outcome.{Outcome, refused_with, found}
use Rattle.pool.specs.BlockSums.{no_sums, sum_words}
use Rattle.pool.specs.SummedBlock.{block_numbers}

-- number and place, 0 where there is no refusal, and the sums' words
pub record BlockReply : Type 0 where
  pub number : ℕ
  pub place : ℕ
  pub words : List ℕ

-- from a function's result and what it leaves in the lent numbers
abbrev pub block_reply : ℕ → ℕ → List ℕ → BlockReply
block_reply number place words = record { number = number; place = place; words = words }

-- by what the block came to: of a refused sheet the words are 0
abbrev pub reply_for : Outcome Sums → BlockReply
reply_for (refused_with number place) = record { number = number; place = place; words = sum_words no_sums }
reply_for (found q) = record { number = 0; place = 0; words = sum_words q }

-- the reply that block b of a sheet is due
abbrev pub block_reply_to : List ℕ → ℕ → BlockReply
block_reply_to s b = reply_for (block_numbers s b)
