-- 01, "The formula and its series": what a reader must believe of the decay table, "for n from 0 to 354 the whole part of 2^32 × e^(−n/16). From n = 355 on
-- it would be 0. Every entry is shown to lie as stated by the series above".
use Rattle.std.specs.Prelude.{ℕ, ◌+◌, ◌^◌}
use Rattle.series.specs.Fraction.{Fraction, over, divided_by, whole, AtMost, Below}
use Rattle.series.specs.Series.{low, up, Admitted}

-- v is the whole part of m × e^(−q), by the series: v ≤ m / Up(k) for an admitted k, and m / Low(j) < v + 1
pub record WholePart (m : ℕ) (q : Fraction) (v : ℕ) : Type 0 where
  pub k : ℕ
  pub admitted : Admitted q k
  pub at_most : AtMost (whole v) (divided_by (whole m) (up q k))
  pub j : ℕ
  pub next_above : Below (divided_by (whole m) (low q j)) (whole (v + 1))

-- the decay table's entry at n
abbrev pub DecayEntry : ℕ → ℕ → Type 0
DecayEntry n v = WholePart (2 ^ 32) (over n 16) v
