-- 01, "The deal sheet" and "Refusals", and 02, S-6: the answer to a sheet, and the lent results as they are left.
use Rattle.std.specs.Prelude.{Result, Ok, Err, List, [], ◌++◌, ℕ, zero, suc, ◌*◌, length, drop}
use Rattle.limits.specs.SheetSize.{line_size}
use Rattle.judgement.specs.DealSheet.{tranche_count}
use Rattle.deal.specs.Lines.{terms, tranche, line_words}
use Rattle.deal.specs.Refusals.{verdict}
use Rattle.faults.specs.Reasons.{number_of}
use Rattle.deal.specs.declared.Weighed.{Weighed}
use Rattle.judgement.specs.declared.Refusal.{Refusal}
use Rattle.judgement.specs.Verdicts.{Verdict, Sound, Faulty}

-- ---- the answer, in 01's numbers

pub record Reply : Type 0 where
  pub number : ℕ
  pub place : ℕ
  pub count : ℕ
  pub charge : ℕ

-- the numbers of each case of an answer: "A refusal returns its number and a place, count and charge 0"; where there is none, number and place read
-- 0 and "The answer holds the tranche count and the pool charge."
abbrev pub reply_of : Result Weighed Refusal → Reply
reply_of (Ok w) = record { number = 0; place = 0; count = w.count; charge = w.charge }
reply_of (Err r) = record { number = number_of r.reason; place = r.place; count = 0; charge = 0 }

-- the numbers that a verdict on a sheet is due
abbrev pub reply_for : List ℕ → Verdict → Reply
reply_for s Sound = record { number = 0; place = 0; count = tranche_count s; charge = (terms s).charge }
reply_for s (Faulty r) = record { number = r.number; place = r.place; count = 0; charge = 0 }

-- the numbers that a sheet is due, with room for that many result words
unfoldable pub reply_to : List ℕ → ℕ → Reply
reply_to s room = reply_for s (verdict s room)

-- ---- the results: "six per tranche", with S-6 seven, "Later words are untouched", and on a refusal "results untouched"

-- the lines of the first n tranches
unfoldable pub lines : List ℕ → ℕ → List ℕ
lines s zero = []
lines s (suc n) = lines s n ++ line_words (tranche s n) (terms s)

abbrev pub results_for : List ℕ → List ℕ → Verdict → List ℕ
results_for s old Sound = lines s (tranche_count s) ++ drop (line_size * tranche_count s) old
results_for s old (Faulty r) = old

unfoldable pub results_after : List ℕ → List ℕ → List ℕ
results_after s old = results_for s old (verdict s (length old))
