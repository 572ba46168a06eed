-- 01, "Refusals, by who can cause them": the answer of `JudgedSheet::judge` in 01's numbers.
use Rattle.std.specs.Prelude.{Result, Ok, Err}
use Rattle.judgement.specs.Outcome.{Outcome, found, refused_by}
use Rattle.judgement.specs.Verdicts.{refusal_of}
use Rattle.judgement.specs.declared.Layout.{Layout}
use Rattle.judgement.specs.declared.Refusal.{Refusal}
use Rattle.judgement.specs.declared.judged.JudgedSheet.{JudgedSheet}

-- the numbers of each case: a refusal's number and place, or what is read of good words
abbrev pub sheet_numbers_of : Result JudgedSheet Refusal → Outcome Layout
sheet_numbers_of (Ok sheet) = found sheet.layout
sheet_numbers_of (Err r) = refused_by (refusal_of r)
