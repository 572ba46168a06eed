-- Two whole numbers between which an exact figure lies (02, S-6, "Both ends in the report").
use Rattle.std.specs.Prelude.{ℕ, ◌+◌, ◌/◌, ◌≤◌}
use Rattle.numbers.specs.Rounding.{rounded_up}
use Rattle.numbers.specs.declared.Ends.{Ends}

-- a figure that is whole: both ends are the figure itself
abbrev pub both : ℕ → Ends
both n = record { low = n; high = n }

-- x / y, rounded down and rounded up (0 where y is 0)
abbrev pub rounded : ℕ → ℕ → Ends
rounded x y = record { low = x / y; high = rounded_up x y }

-- a function of numbers at both ends
abbrev pub at_both : (ℕ → ℕ) → Ends → Ends
at_both f e = record { low = f e.low; high = f e.high }

-- the low end is not above the high one, and at most a distance below it
pub record EndsWithin (distance : ℕ) (e : Ends) : Type 0 where
  pub ordered : e.low ≤ e.high
  pub near : e.high ≤ e.low + distance
