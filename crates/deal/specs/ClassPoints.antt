-- What the points between classes are, which a PreparedDeal holds. No reader has to trust this file: `class_points` (src/tranches.rt) promises it
-- of the table that it makes for every sheet whose words are good.
use Rattle.std.specs.Prelude.{List, ◌≡◌, ℕ, ◌+◌, ◌≤◌, ◌<◌, get_or}
use Rattle.judgement.specs.DealSheet.{tranche_count, class}
use Rattle.pool.specs.PoolSums.{pool_sums}
use Rattle.deal.specs.Points.{point, senior_amount}

-- at each c up to one more than the class of some tranche stands the point beneath the amounts senior to c
pub record ClassPoints (s points : List ℕ) : Type 0 where
  pub at_class : (i c : ℕ) → i < tranche_count s → c ≤ class s i + 1 → get_or points c 0 ≡ point (pool_sums s).all.nominal (senior_amount s c)
