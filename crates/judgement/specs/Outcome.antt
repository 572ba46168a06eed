-- 01, "Refusals, by who can cause them": "A refusal returns its number and a place"; where there is none, what was found, for which 01 has no number. One type for every
-- answer that is a refusal or a value.
use Rattle.std.specs.Prelude.{ℕ, Result, Ok, Err}
use Rattle.judgement.specs.declared.Refusal.{Refusal as DeclaredRefusal}
use Rattle.judgement.specs.Verdicts.{Refusal, Verdict, Sound, Faulty, refusal_of}

pub data Outcome (A : Type 0) : Type 0 where
  refused_with : ℕ → ℕ → Outcome A
  found : A → Outcome A

-- a refusal in 01's numbers
abbrev pub refused_by : {A : Type 0} → Refusal → Outcome A
refused_by r = refused_with r.number r.place

-- what a verdict leaves, where the value is a
abbrev pub outcome : {A : Type 0} → A → Verdict → Outcome A
outcome a Sound = found a
outcome a (Faulty r) = refused_by r

-- the numbers of an answer, by each of its cases
abbrev pub numbers_of : {A : Type 0} → Result A DeclaredRefusal → Outcome A
numbers_of (Ok a) = found a
numbers_of (Err r) = refused_by (refusal_of r)
