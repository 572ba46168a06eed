-- Limits, which 01 and 02 set for counts, amounts, maturities and the parts of a date.
use Rattle.std.specs.Prelude.{Bool, ◌&&◌, ℕ, leb}

-- whether a number is within limits, these included
abbrev pub within : ℕ → ℕ → ℕ → Bool
within least most n = leb least n && leb n most
