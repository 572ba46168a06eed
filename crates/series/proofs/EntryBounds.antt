-- How large an entry of a table of decays gets, and from where on it is 0. No axioms.
use mathlib.Core.Bool.{Bool}
use mathlib.Core.Path.{◌≡◌}
use Prim.Native.Nat.{ℕ, ◌*◌, ◌^◌, ◌≤◌, ◌<◌}
use native.Mathlib.Nat.{zero-lt-suc, mul-le-mul_right, mul-lt-mul_of_pos_right, lt_of_mul-lt-mul_right, div-le_of_le-mul, div-eq_of_lt}
use native.Mathlib.Omega.{arith}
use lib.Dec.{T, leb, leb→le, ltb, ltb→lt}
use Rattle.numbers.proofs.Table.{at_each}
use Rattle.series.specs.Fraction.{Fraction, over, AtMost}
use Rattle.series.specs.Series.{low, factorial}
use Rattle.series.specs.TableEntry.{entry}
use Rattle.series.proofs.SeriesLaws.{low_at_least_one, low_bottom_pos, low_grows}

-- an entry is at most 2^32, because Low is at least 1
pub entry_at_most : (n d : ℕ) → entry n d ≤ 2 ^ 32
unfolding entry
entry_at_most n d = div-le_of_le-mul (low (over n d) 43).top (omega (arith, low_at_least_one (over n d) 43))

-- a fine entry is at least 2^31, by computation
pub fine_entry_at_least : (m : ℕ) → m < 64 → 2 ^ 31 ≤ entry m 1024
unfolding low entry factorial
fine_entry_at_least m h = leb→le _ _ (at_each (λ i. leb (2 ^ 31) (entry i 1024)) 64 tt m h)

-- an entry of less than sixteen sixteenths is not 0, by computation
pub sixteenth_entry_above_zero : (n : ℕ) → n < 16 → 0 < entry n 16
unfolding low entry factorial
sixteenth_entry_above_zero n h = ltb→lt _ _ (at_each (λ i. ltb 0 (entry i 16)) 16 tt n h)

-- the computed test of a table's end: Low(43) is more than 2^32
abbrev ends : ℕ → ℕ → Bool
unfolding low factorial
ends n d = ltb (2 ^ 32 * (low (over n d) 43).bottom) (low (over n d) 43).top

-- where x is more than c, a larger y is
more_than : (c : ℕ) (x y : Fraction) → 0 < y.bottom → c * x.bottom < x.top → AtMost x y → c * y.bottom < y.top
more_than c x y pos h l = lt_of_mul-lt-mul_right x.bottom (omega (arith, mul-lt-mul_of_pos_right h pos))

-- from there on Low(43) stays above 2^32, so that the entry is 0
zero_from : (last d : ℕ) → 0 < d → T (ends last d) → (n : ℕ) → last ≤ n → entry n d ≡ 0
unfolding low factorial entry
zero_from last d pos t n h =
    let this = over n d in
    div-eq_of_lt
    (more_than (2 ^ 32) (low (over last d) 43) (low this 43) (low_bottom_pos this pos 43) (ltb→lt _ _ t)
    (low_grows (over last d) this (mul-le-mul_right d h) 43))

pub entry_zero : (n : ℕ) → 355 ≤ n → entry n 16 ≡ 0
unfolding ends
entry_zero = zero_from 355 16 (zero-lt-suc 15) tt

pub whole_entry_zero : (n : ℕ) → 23 ≤ n → entry n 1 ≡ 0
unfolding ends
whole_entry_zero = zero_from 23 1 (zero-lt-suc 0) tt
