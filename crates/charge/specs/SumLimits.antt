-- Limits on a pool's sums and on the figures of an IRB section, under which nothing overflows: as the test that the code makes, and in plain relations. That both say the same
-- is proved in proofs/SumLimitsLaw.antt; that the sums of every sheet whose words are good keep them, in PoolLaws.antt of `pool` (`sum_limits`).
use Rattle.std.specs.Prelude.{Bool, ◌&&◌, ℕ, ◌*◌, ◌≤◌, leb}
use Rattle.irba.specs.declared.IrbFigures.{IrbFigures}
use Rattle.charge.specs.declared.Sums.{Sums}
use Rattle.charge.specs.declared.Totals.{Totals}

-- the largest sum of amounts: 1,000 rows of 10^10. A bound of this crate's own, which more rows would move
abbrev pub largest_sum : ℕ
largest_sum = 10000000000000

-- the highest risk weight of a row, in hundredths of a percent
abbrev pub highest_weight : ℕ
highest_weight = 125000

unfoldable pub sums_within : Sums → Bool
sums_within q =
    leb q.all.exposure largest_sum &&
    leb q.known.exposure q.all.exposure &&
    leb q.all.weighted (highest_weight * q.all.exposure) &&
    leb q.known.weighted (highest_weight * q.known.exposure) &&
    leb q.known.nominal largest_sum &&
    leb q.late q.known.nominal

-- rows of known status are among all rows and delinquent ones among those of known status, no risk weight is above the highest, and no amount that is
-- multiplied is above the largest sum
pub record SumLimits (q : Sums) : Type 0 where
  pub exposure_most : q.all.exposure ≤ largest_sum
  pub known_among_all : q.known.exposure ≤ q.all.exposure
  pub weighted_at_most : q.all.weighted ≤ highest_weight * q.all.exposure
  pub known_weighted_most : q.known.weighted ≤ highest_weight * q.known.exposure
  pub known_nominal_most : q.known.nominal ≤ largest_sum
  pub late_among_known : q.late ≤ q.known.nominal

-- totals over some rows, within the same limits: those over all rows and those over the rows with known status keep them
pub record TotalsLimits (t : Totals) : Type 0 where
  pub exposure_most : t.exposure ≤ largest_sum
  pub weighted_at_most : t.weighted ≤ highest_weight * t.exposure

-- ---- the figures of an IRB section: a share and a charge of at most 1, and an average of at most 1250%

unfoldable pub irb_within : IrbFigures → Bool
irb_within f = leb f.share 1000000 && leb f.charge 1000000 && leb f.average 125000

-- the same in plain relations; those of every sheet with good words keep them (`irb_limits`, TermsLaws.antt of `deal`)
pub record IrbLimits (f : IrbFigures) : Type 0 where
  pub share_most : f.share ≤ 1000000
  pub charge_most : f.charge ≤ 1000000
  pub average_most : f.average ≤ 125000
