-- 02, S-9: "its answer counts the words written": what a program in C gets of a conversion, the refusal's number as the function's result, its place and the count through lent numbers.
use Rattle.std.specs.Prelude.{List, ℕ}
use Rattle.judgement.specs.Outcome.{Outcome, refused_with, found}
use Rattle.conversion.specs.Conversion.{conversion_numbers}

-- number and place, 0 where there is no refusal, and the words written, 0 where there is one
pub record ConversionReply : Type 0 where
  pub number : ℕ
  pub place : ℕ
  pub count : ℕ

-- from a function's result and what it leaves in the lent numbers
abbrev pub conversion_reply : ℕ → ℕ → ℕ → ConversionReply
conversion_reply number place count = record { number = number; place = place; count = count }

-- by what the conversion came to
abbrev pub reply_for : Outcome ℕ → ConversionReply
reply_for (refused_with number place) = conversion_reply number place 0
reply_for (found n) = conversion_reply 0 0 n

-- the reply that a sheet is due, with room for that many output words
abbrev pub conversion_reply_to : List ℕ → ℕ → ConversionReply
conversion_reply_to s room = reply_for (conversion_numbers s room)
