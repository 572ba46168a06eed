-- What the two ends of each step of FixedPoint.antt are ends of: of a decay and of a mean decay in terms of the series alone (Bounds.antt of `series`), of their product in terms
-- of the two factors' ends. Private contracts cite it; no reader has to trust it, since `raw_weight_is` says what follows. An exponent x is counted in units of 2^−32 and rounded
-- down, so it stands for every exponent from x / 2^32 to below (x + 1) / 2^32, and its low ends are low for the largest of these, its high ends high for the smallest.
use Rattle.std.specs.Prelude.{ℕ, suc, ◌*◌, ◌^◌, ◌≤◌, ◌<◌}
use Rattle.numbers.specs.declared.Ends.{Ends}
use Rattle.series.specs.Fraction.{over}
use Rattle.series.specs.Bounds.{NotAbove, NotBelow, MeanDecayHigh, MeanDecayLow}
use Rattle.formula.specs.FixedPoint.{decay, mean_decay}

-- e / 2^32: the ends of e^(−x)
pub record DecayEnds (x : ℕ) (e : Ends) : Type 0 where
  pub low : NotAbove e.low (2 ^ 32) (over (suc x) (2 ^ 32))
  pub high : NotBelow e.high (2 ^ 32) (over x (2 ^ 32))

-- e / 2^27: the ends of (1 − e^−(a / b)) / (a / b), for every a / b above 0 for which x stands
pub record MeanDecayEnds (x : ℕ) (e : Ends) : Type 0 where
  pub low : (a b : ℕ) → 0 < a → 0 < b → x * b ≤ a * 2 ^ 32 → a * 2 ^ 32 < suc x * b → MeanDecayLow a b e.low
  pub high : (a b : ℕ) → 0 < a → 0 < b → x * b ≤ a * 2 ^ 32 → a * 2 ^ 32 < suc x * b → MeanDecayHigh a b e.high

-- e / 2^27: the ends of e^(−L) times the mean decay of x, by the ends of both factors. The low ends are divided by 2^32 + 1 in place of 2^32, which leaves the room that the series needs
-- (`gap_at_some_k`, Gap.antt of `series`)
pub record ProductEnds (L x : ℕ) (e : Ends) : Type 0 where
  pub low : e.low * suc (2 ^ 32) ≤ (decay L).low * (mean_decay x).low
  pub high : (decay L).high * (mean_decay x).high ≤ e.high * 2 ^ 32
