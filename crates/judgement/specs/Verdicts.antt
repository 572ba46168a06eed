-- 01, "Refusals, by who can cause them": "A refusal returns its number and a place". The words of the definitions; `refusal_of` and `verdict_of` give them for each answer of the code.
use Rattle.std.specs.Prelude.{ℕ, Result, Ok, Err}
use Rattle.faults.specs.Reasons.{number_of}
use Rattle.judgement.specs.declared.NumberedRefusal.{NumberedRefusal}
use Rattle.judgement.specs.declared.Refusal.{Refusal as DeclaredRefusal}

-- a refusal in 01's numbers
pub record Refusal : Type 0 where
  pub number : ℕ
  pub place : ℕ

-- what has been judged so far: nothing wrong, or the first fault
pub data Verdict : Type 0 where
  Sound : Verdict
  Faulty : Refusal → Verdict

-- the numbers of a refusal
abbrev pub refusal_of : DeclaredRefusal → Refusal
refusal_of r = record { number = number_of r.reason; place = r.place }

-- the verdict that an answer is
abbrev pub verdict_of : Result (Unit {0}) DeclaredRefusal → Verdict
verdict_of (Ok _) = Sound
verdict_of (Err r) = Faulty (refusal_of r)

-- the same of an answer whose refusal has a number
abbrev pub numbered_verdict : Result (Unit {0}) NumberedRefusal → Verdict
numbered_verdict (Ok _) = Sound
numbered_verdict (Err r) = Faulty (record { number = r.number; place = r.place })
