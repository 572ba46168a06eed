-- The steps by which the raw weight is computed in 64-bit words, both its numbers as one function of A, D, K and p. 02, S-6: "So the exponential and the formula must carry both ends, not
-- one.": each step has a low and a high end, of which one is worked out from the other by the distance within which it is proved to lie. No reader has to trust this file: the law
-- `raw_weight_is` (proofs/RawWeightLaw.antt) says that raw_weight keeps IsRawWeight of Formula.antt on all inputs. It only settles which of the
-- numbers that pass are given. Exponents x and L are counted in units of 2^−32, rounded down; StepEnds.antt says what each step's ends are ends of.
use Rattle.std.specs.Prelude.{Bool, cond, ◌&&◌, ℕ, ◌+◌, ◌*◌, ◌-◌, ◌/◌, ◌%◌, ◌^◌, min, max, leb, ltb, eqb}
use Rattle.numbers.specs.Rounding.{rounded_up}
use Rattle.numbers.specs.BothEnds.{both}
use Rattle.numbers.specs.declared.Ends.{Ends}
use Rattle.series.specs.TableEntry.{entry}
use Rattle.formula.specs.Formula.{RawWeightNumbers, weighing, refusing, unnumbered}

-- How far the ends of each step may lie apart: a decay's in units of 2^−32, a mean decay's and the product's in units of 2^−27. By the last the
-- two weights before rounding are at most 125,000 × 243 / 2^27, about 0.23, apart.
abbrev pub decay_distance : ℕ
decay_distance = 12

abbrev pub mean_decay_distance : ℕ
mean_decay_distance = 241

abbrev pub product_distance : ℕ
product_distance = 243

-- a number from above, and the one that lies a distance below it, or 0
abbrev pub from_above : ℕ → ℕ → Ends
from_above n distance = record { low = n - distance; high = n }

-- at most 2^32 × e^(−n / 16), and at most 3 below it: the entry of the whole exponent times that of the sixteenths
abbrev pub coarse_decay : ℕ → ℕ
coarse_decay n = entry (n / 16) 1 * entry (n % 16) 16 / 2 ^ 32

-- the fine entry times 1 − r + r² / 2, with r = j / 2^32 below 2^−10, less 4, so that it stays below 2^32 × e^−(m / 1024 + r)
unfoldable pub fine_decay : ℕ → ℕ → ℕ
fine_decay m j = entry m 1024 - entry m 1024 * (j - j * j / 2 ^ 33) / 2 ^ 32 - 4

-- at most 2^32 × e^(−x), and at most decay_distance below it
unfoldable pub decay_below : ℕ → ℕ
decay_below x = coarse_decay (x / 2 ^ 28) * fine_decay (x % 2 ^ 28 / 2 ^ 22) (x % 2 ^ 28 % 2 ^ 22) / 2 ^ 32

-- at least 2^32 × e^(−x)
unfoldable pub decay_above : ℕ → ℕ
decay_above x = min (decay_below x + decay_distance) (2 ^ 32)

-- both ends of 2^32 × e^(−x)
abbrev pub decay : ℕ → Ends
decay x = record { low = decay_below x; high = decay_above x }

-- The mean decay of an exponent x is (1 − e^(−x)) / x, the mean of e^(−t) for t from 0 to x. Where x is below 2^−9: 2^27 × (1 − x / 2) + 171,
-- since the mean decay is at most 1 − x / 2 + x² / 3 and 2^27 × x² / 3 is below 171.
unfoldable pub mean_decay_of_small : ℕ → ℕ
mean_decay_of_small x = 2 ^ 27 + 171 - x / 64

-- elsewhere the quotient, an upper bound: the decay is taken from below, x is rounded down, and 1 is added for the quotient's rounding
unfoldable pub mean_decay_of_large : ℕ → ℕ
mean_decay_of_large x = (2 ^ 32 + 1 - decay_below x) * 2 ^ 27 / x + 1

-- at least 2^27 × the mean decay of x, at most mean_decay_distance above it, and at most 2^27
unfoldable pub mean_decay_above : ℕ → ℕ
mean_decay_above x = min (2 ^ 27) (cond (ltb x (2 ^ 23)) (mean_decay_of_small x) (mean_decay_of_large x))

-- both ends of 2^27 × the mean decay of x
abbrev pub mean_decay : ℕ → Ends
mean_decay x = from_above (mean_decay_above x) mean_decay_distance

-- decay_above × mean_decay_above, rounded up: at least 2^27 × e^(−L) × the mean decay of x, at most product_distance above it, at most 2^27
unfoldable pub product_above : ℕ → ℕ → ℕ
product_above L x = (decay_above L * mean_decay_above x + (2 ^ 32 - 1)) / 2 ^ 32

-- both ends of 2^27 × e^(−L) × the mean decay of x
abbrev pub product : ℕ → ℕ → Ends
product L x = from_above (product_above L x) product_distance

-- a / b in units of 2^−32, rounded down
unfoldable pub units : ℕ → ℕ → ℕ
units a b = a * 2 ^ 32 / b

-- both ends of 2^27 × e^(−l/s) × the mean decay of v/s, where v = D − max(A, K)
unfoldable pub formula_product : ℕ → ℕ → ℕ → ℕ → Ends
formula_product A D K p = product (units ((A - K) * 1000000) (p * K)) (units ((D - max A K) * 1000000) (p * K))

-- 125,000 × (max(K − A, 0) + v × an end of the product) in units of 2^−27
unfoldable pub weight_numerator : ℕ → ℕ → ℕ → ℕ → ℕ
weight_numerator A D K end = 125000 * ((K - A) * 2 ^ 27 + (D - max A K) * end)

-- that over D − A, with the low end rounded down and with the high end rounded up
unfoldable pub formula_weight : ℕ → ℕ → ℕ → ℕ → Ends
formula_weight A D K p = record {
  low = weight_numerator A D K (formula_product A D K p).low / ((D - A) * 2 ^ 27);
  high = rounded_up (weight_numerator A D K (formula_product A D K p).high) ((D - A) * 2 ^ 27);
}

-- whether the inputs are within the limits of Formula.antt
abbrev pub within_limits : ℕ → ℕ → ℕ → ℕ → Bool
within_limits A D K p = leb A 1000000 && leb D 1000000 && leb K 1000000 && leb 300000 p && ltb p 5000000

-- the answer in 01's numbers, with both numbers of the raw weight, as one function of its four inputs
unfoldable pub raw_weight : ℕ → ℕ → ℕ → ℕ → RawWeightNumbers
raw_weight A D K p =
    cond (within_limits A D K p)
    (cond (leb D K) (weighing (both 125000))
    (cond (eqb K 0) (weighing (both 0))
    (cond (leb D A) (refusing 13)
    (weighing (formula_weight A D K p)))))
    unnumbered
