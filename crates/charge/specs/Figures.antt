-- What a deal reads of its pool, on all sums.
use Rattle.std.specs.Prelude.{false, cond, ◌&&◌}
use Rattle.irba.specs.declared.IrbFigures.{IrbFigures}
use Rattle.charge.specs.PoolCharge.{mostly_known, pool_charge, mixed_charge, pool_average}
use Rattle.charge.specs.SumLimits.{sums_within, irb_within}
use Rattle.charge.specs.declared.Figures.{Figures}
use Rattle.charge.specs.declared.Sums.{Sums}

-- 01's figures
abbrev pub pool_figures : Sums → Figures
pool_figures q = record { known = mostly_known q; charge = pool_charge q; average = pool_average q }

-- the highest that 01's figures can be
abbrev pub highest_figures : Figures
highest_figures = record { known = false; charge = 1000000; average = 125000 }

-- 01's figures within the limits; outside them, where no sheet's sums are, the highest, so that nobody gets one that is too low
unfoldable pub figures : Sums → Figures
figures q = cond (sums_within q) (pool_figures q) highest_figures

-- ---- 02, S-5, approach 3

-- "the IRB average takes the place of the pool average in the cap"
abbrev pub mixed_figures : IrbFigures → Sums → Figures
mixed_figures f q = record { known = mostly_known q; charge = mixed_charge f q.all; average = f.average }

-- 02's figures within the limits, and the highest outside them
unfoldable pub irba_figures : IrbFigures → Sums → Figures
irba_figures f q = cond (sums_within q && irb_within f) (mixed_figures f q) highest_figures
