-- Rounding up, which 01 asks for of charges, weights and amounts.
use Rattle.std.specs.Prelude.{ℕ, ◌+◌, ◌-◌, ◌/◌}

-- x / y, rounded up (0 where y is 0)
abbrev pub rounded_up : ℕ → ℕ → ℕ
rounded_up x y = (x + (y - 1)) / y
