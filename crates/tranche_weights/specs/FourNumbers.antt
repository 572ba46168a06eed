-- 01, "Refusals": an answer as a program in C gets it, its number as the function's result and the others through lent numbers.
use Rattle.std.specs.Prelude.{ℕ}
use Rattle.deal.specs.Results.{Reply}

-- "A refusal returns its number and a place, count and charge 0"; "The answer holds the tranche count and the pool charge."
abbrev pub four_numbers : ℕ → ℕ → ℕ → ℕ → Reply
four_numbers number place count charge = record { number = number; place = place; count = count; charge = charge }
