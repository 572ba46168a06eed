-- 01, "Refusals, by who can cause them", and 02, S-1, for 16, S-3, for 17, S-5, for 18, and S-9, for risk weights in hundredths: the fault of each word of a sheet, and the order in which they are judged. The fault of a
-- word by its value is in WordFaults.antt of `faults`.
use Rattle.std.specs.Prelude.{cond, List, ℕ, zero, suc, ◌+◌, ◌-◌, ◌/◌, ◌%◌, ltb, eqb, length}
use Rattle.limits.specs.SheetSize.{facts_least, facts_most, rows_most, row_size, tranches_most, tranche_size, irb_rows, irb_size}
use Rattle.faults.specs.WordFaults.{count_fault, fact_fault, row_fault, tranche_fault, irb_fault}
use Rattle.judgement.specs.DealSheet.{word, pool_kind, resecuritisation, reporting_date, in_hundredths, pool_at, tranches_at, amount, class, irb_at, needed, layout}
use Rattle.judgement.specs.Outcome.{Outcome, outcome}
use Rattle.judgement.specs.declared.Layout.{Layout}
use Rattle.judgement.specs.Verdicts.{Verdict, Sound, Faulty}

-- ---- the fault of a word of the sheet

-- a section's row and column at place p, where its count is at place `at` and its rows have `size` words
abbrev pub row_of : ℕ → ℕ → ℕ → ℕ
row_of size at p = (p - (at + 1)) / size

abbrev pub column_of : ℕ → ℕ → ℕ → ℕ
column_of size at p = (p - (at + 1)) % size

-- the fault of the word at place p, by its section; 02, S-5: "A wrong count gets 2"
unfoldable pub fault : List ℕ → ℕ → ℕ
fault s p =
    cond (eqb p 0) (count_fault facts_least facts_most (word s p))
    (cond (ltb p (pool_at s)) (fact_fault (resecuritisation s) p (word s p))
    (cond (eqb p (pool_at s)) (count_fault 1 rows_most (word s p))
    (cond (ltb p (tranches_at s)) (row_fault (resecuritisation s) (in_hundredths s) (column_of row_size (pool_at s) p) (word s p))
    (cond (eqb p (tranches_at s)) (count_fault 1 tranches_most (word s p))
    (cond (ltb p (irb_at s))
    (let i = row_of tranche_size (tranches_at s) p in
    tranche_fault (reporting_date s) i (class s (i - 1)) (amount s i) (column_of tranche_size (tranches_at s) p) (word s p))
    (cond (eqb p (irb_at s)) (count_fault irb_rows irb_rows (word s p))
    (irb_fault (pool_kind s) (column_of irb_size (irb_at s) p) (word s p))))))))

-- ---- "Words are judged from place 0 upward and the first bad one decides, at its own place."

abbrev pub refused : ℕ → ℕ → Verdict
refused number place = Faulty (record { number = number; place = place })

-- a word's verdict: "1: a needed word is missing; place is the sheet's length", else its own fault at its own place
abbrev pub judge_with : ℕ → ℕ → ℕ → Verdict
judge_with size p number = cond (ltb p size) (cond (eqb number 0) Sound (refused number p)) (refused 1 size)

unfoldable pub judge : List ℕ → ℕ → Verdict
judge s p = judge_with (length s) p (fault s p)

-- the first verdict decides where it is a fault
abbrev pub or_else : Verdict → Verdict → Verdict
or_else Sound later = later
or_else (Faulty r) later = Faulty r

-- the first fault among f 0, …, f (k − 1)
unfoldable pub first_of : (ℕ → Verdict) → ℕ → Verdict
first_of f zero = Sound
first_of f (suc k) = or_else (first_of f k) (f k)

-- words judged upward by any rule, then 3: `fault p` is the fault of the word at place p, `size` how many words there are and `need` how many there must be
abbrev pub judged_words : (ℕ → ℕ) → ℕ → ℕ → Verdict
judged_words fault size need = or_else (first_of (λ p. judge_with size p (fault p)) need) (cond (ltb need size) (refused 3 need) Sound)

-- the first fault among the first k words of a sheet
abbrev pub judged : List ℕ → ℕ → Verdict
judged s k = first_of (judge s) k

-- ---- "Then 3": what the words alone decide. What follows, 14 and 13, is in Refusals.antt of `deal`.

-- "3: words follow the last section; place of the first."
abbrev pub words_follow : List ℕ → Verdict
words_follow s = cond (ltb (needed s) (length s)) (refused 3 (needed s)) Sound

-- the refusals that the words alone decide: the first bad or missing word, then 3 (`judged_words`, of the sheet's words)
unfoldable pub words_verdict : List ℕ → Verdict
words_verdict s = or_else (judged s (needed s)) (words_follow s)

-- ---- what the words of a sheet are found to be, in 01's numbers: a refusal's number and place, or what is read of good words

-- the numbers that the words of a sheet are due
unfoldable pub words_numbers : List ℕ → Outcome Layout
words_numbers s = outcome (layout s) (words_verdict s)
