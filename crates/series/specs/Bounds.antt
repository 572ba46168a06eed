-- What it means that a fraction lies on one side of e^(−q), and a whole number on one side of 2^27 × (1 − e^(−x)) / x, in terms of the series alone. The steps by which the
-- formula is computed promise their low and high ends by it, in private contracts; no reader has to trust it.
use Rattle.std.specs.Prelude.{ℕ, suc, ◌+◌, ◌*◌, ◌^◌, ◌≤◌, ◌<◌}
use Rattle.series.specs.Fraction.{Fraction, over}
use Rattle.series.specs.Series.{low}

-- c / s is at most e^(−q): c × e^q ≤ s
pub record NotAbove (c s : ℕ) (q : Fraction) : Type 0 where
  pub every : (k : ℕ) → c * (low q k).top ≤ s * (low q k).bottom

-- c / s is at least e^(−q): s ≤ c × e^q
pub record NotBelow (c s : ℕ) (q : Fraction) : Type 0 where
  pub some_k : ℕ
  pub holds : s * (low q some_k).bottom ≤ c * (low q some_k).top

-- h / 2^27 is at least (1 − e^(−x)) / x, for x = a / b: some c / s is at most e^(−x), and 1 − c / (s + 1) is at most x h / 2^27
pub record MeanDecayHigh (a b h : ℕ) : Type 0 where
  pub c : ℕ
  pub s : ℕ
  pub bound : NotAbove c s (over a b)
  pub holds : suc s * (2 ^ 27 * b) ≤ suc s * (h * a) + c * (2 ^ 27 * b)

-- h / 2^27 is at most (1 − e^(−x)) / x: some c / s is at least e^(−x), and x h / 2^27 is at most 1 − (c + 1) / s
pub record MeanDecayLow (a b h : ℕ) : Type 0 where
  pub c : ℕ
  pub s : ℕ
  pub s_pos : 0 < s
  pub bound : NotBelow c s (over a b)
  pub holds : s * (h * a) + suc c * (2 ^ 27 * b) ≤ s * (2 ^ 27 * b)
