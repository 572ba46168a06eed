-- 01, "The formula and its series": the series that holds e^q, and so e^(−q), between two bounds, for a fraction q ≥ 0.
use Rattle.std.specs.Prelude.{ℕ, zero, suc, ◌+◌, ◌*◌, ◌^◌, ◌≤◌}
use Rattle.series.specs.Fraction.{Fraction, over, plus, times, whole}

unfoldable pub factorial : ℕ → ℕ
factorial zero = 1
factorial (suc i) = factorial i * suc i

-- q^i / i!
abbrev pub term : Fraction → ℕ → Fraction
term q i = over (q.top ^ i) (q.bottom ^ i * factorial i)

-- "Low(k) is the sum of q^i / i! for i from 0 to k."
unfoldable pub low : Fraction → ℕ → Fraction
low q zero = term q zero
low q (suc k) = plus (low q k) (term q (suc k))

-- "Up(k) is Low(k) + 2 × q^(k+1) / (k+1)!,
abbrev pub up : Fraction → ℕ → Fraction
up q k = plus (low q k) (times (whole 2) (term q (suc k)))

-- admitted when k + 2 ≥ 2q."
abbrev pub Admitted : Fraction → ℕ → Type 0
Admitted q k = 2 * q.top ≤ (k + 2) * q.bottom
