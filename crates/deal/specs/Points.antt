-- 01, "Points and pool charge": attachment and detachment point (d374 paragraphs 53 and 54, which CRE44.14 and CRE44.15 give), in millionths of the pool's nominal.
-- The pool's sums are in PoolSums.antt of `pool`, its charge in PoolCharge.antt of `charge`.
use Rattle.std.specs.Prelude.{List, ℕ, ◌+◌, ◌*◌, ◌-◌, ◌/◌, ltb}
use Rattle.numbers.specs.Sum.{sum, where_counted}
use Rattle.judgement.specs.DealSheet.{tranche_count, amount, class}
use Rattle.pool.specs.PoolSums.{pool_sums}

-- the amounts of the tranches of a class below c, that is senior to c
unfoldable pub senior_amount : List ℕ → ℕ → ℕ
senior_amount s c = sum (λ j. where_counted (ltb (class s j) c) (amount s j)) (tranche_count s)

-- max(0, N − x) × 10^6 / N, rounded down
abbrev pub point : ℕ → ℕ → ℕ
point N x = (N - x) * 1000000 / N

-- "A is max(0, N minus all tranches of this or a senior class) × 10^6 / N, rounded down."
unfoldable pub attachment_point : List ℕ → ℕ → ℕ
attachment_point s i = point (pool_sums s).all.nominal (senior_amount s (class s i + 1))

-- "D is the same with senior classes only."
unfoldable pub detachment_point : List ℕ → ℕ → ℕ
detachment_point s i = point (pool_sums s).all.nominal (senior_amount s (class s i))
