-- What the parameter of approach 3 is, in relations of numbers: the least whole number of millionths that is at least 0.3 and no lower than the sum. The sum is a
-- numerator over a denominator, and its sign counts: nothing is cut off.
use Rattle.std.specs.Prelude.{Bool, ℕ, ◌*◌, ◌≤◌, ◌<◌, pos, ◌+ℤ◌, ◌≤ℤ◌, ◌<ℤ◌}
use Rattle.irba.specs.declared.IrbFigures.{IrbFigures}
use Rattle.irba.specs.Parameter.{pool_sum, denominator}

-- p millionths are the parameter: at least 0.3; at least the sum; and, where above 0.3, one millionth less would be below the sum
pub record IsParameter (senior stc : Bool) (charge fifths : ℕ) (f : IrbFigures) (p : ℕ) : Type 0 where
  pub at_least : 300000 ≤ p
  pub covers : pool_sum senior charge fifths f ≤ℤ pos (p * denominator stc f.loans)
  pub no_higher :
      300000 < p → pos (p * denominator stc f.loans) <ℤ (pool_sum senior charge fifths f +ℤ pos (denominator stc f.loans))
