-- A sum over an index, which serves every sum of 01, and its blocks, which serve 02, S-7.
use Rattle.std.specs.Prelude.{Bool, cond, ℕ, zero, suc, ◌+◌, ◌*◌, ◌-◌, min}

-- f 0 + … + f (n − 1)
unfoldable pub sum : (ℕ → ℕ) → ℕ → ℕ
sum f zero = 0
sum f (suc n) = sum f n + f n

-- f a + … + f (e − 1), and 0 where e is not above a
abbrev pub sum_from : (ℕ → ℕ) → ℕ → ℕ → ℕ
sum_from f a e = sum (λ j. f (a + j)) (e - a)

-- block b of n terms, m to a block, counted from 0: it begins with term m × b, and ends before the next block's first term, the last block before the end of the terms
abbrev pub block_start : ℕ → ℕ → ℕ
block_start m b = m * b

abbrev pub block_end : ℕ → ℕ → ℕ → ℕ
block_end m n b = min n (m * b + m)

-- the part of f 0 + … + f (n − 1) that is block b
abbrev pub block_sum : (ℕ → ℕ) → ℕ → ℕ → ℕ → ℕ
block_sum f m n b = sum_from f (block_start m b) (block_end m n b)

-- x where it counts, and 0 where not
abbrev pub where_counted : Bool → ℕ → ℕ
where_counted counts x = cond counts x 0
