-- The first of some numbers that passes a test: of the rows of a section, the first that has what is asked (02, S-8).
use Rattle.std.specs.Prelude.{Bool, cond, ℕ, zero, suc, ltb}

-- the first of 0 to n − 1 that passes, and n where none does
unfoldable pub first_where : (ℕ → Bool) → ℕ → ℕ
first_where test zero = zero
first_where test (suc n) = cond (test zero) zero (suc (first_where (λ k. test (suc k)) n))

-- whether one of 0 to n − 1 passes
abbrev pub some_where : (ℕ → Bool) → ℕ → Bool
some_where test n = ltb (first_where test n) n
