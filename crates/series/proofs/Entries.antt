-- The entries of the decay table (d = 16), of whole exponents (d = 1) and of 1024ths (d = 1024) are whole parts of 2^32 × e^(−n/d). No axioms.
use mathlib.Core.Bool.{Bool}
use mathlib.Core.List.{List}
use mathlib.Core.Logic.{⊎_elim}
use mathlib.Core.Path.{◌≡◌, ◌∙◌}
use Prim.Native.Nat.{ℕ, ◌+◌, ◌*◌, ◌-◌, ◌^◌, ◌≤◌, ◌<◌, zero-le}
use native.Mathlib.Nat.{lt-div-mul-add, zero-mul}
use native.Mathlib.Omega.{arith}
use lib.Dec.{T, leb, leb→le}
use lib.ListN.{get_or}
use Rattle.series.specs.Fraction.{over, divided_by, whole, Below}
use Rattle.series.specs.Series.{factorial, low, up, Admitted}
use Rattle.series.specs.DecayTable.{DecayEntry}
use Rattle.series.specs.TableEntry.{entry}
use Rattle.numbers.proofs.SmallerLarger.{le_or_lt}
use Rattle.numbers.proofs.Table.{all_below, at_each, agrees, entry_is}
use Rattle.series.proofs.SeriesLaws.{low_top_pos}
use Rattle.series.proofs.WholePartLaw.{at_most_quotient, quotient_below}
use Rattle.series.specs.Bounds.{NotAbove, NotBelow}
use Rattle.series.proofs.DecayBounds.{not_above_by_up}
use Rattle.series.proofs.EntryBounds.{entry_at_most, entry_zero, whole_entry_zero}

-- the computed test: the entry times Up(43) is at most 2^32
abbrev fits : ℕ → ℕ → Bool
unfolding low entry factorial
fits d n = leb (entry n d * (up (over n d) 43).top) (2 ^ 32 * (up (over n d) 43).bottom)

-- what it says
abbrev Fits : ℕ → ℕ → Type 0
Fits d n = entry n d * (up (over n d) 43).top ≤ 2 ^ 32 * (up (over n d) 43).bottom

fits_below : (d size : ℕ) → T (all_below (fits d) size) → (n : ℕ) → n < size → Fits d n
unfolding low entry factorial
fits_below d size t n h = leb→le _ _ (at_each (fits d) size t n h)

coarse_fits : (n : ℕ) → n < 355 → Fits 16 n
unfolding fits
coarse_fits = fits_below 16 355 tt

whole_fits : (n : ℕ) → n < 23 → Fits 1 n
unfolding fits
whole_fits = fits_below 1 23 tt

fine_fits : (m : ℕ) → m < 64 → Fits 1024 m
unfolding fits
fine_fits = fits_below 1024 64 tt

-- the next whole number is above 2^32 × e^(−n/d)
entry_next : (n d : ℕ) → 0 < d → 2 ^ 32 * (low (over n d) 43).bottom < (entry n d + 1) * (low (over n d) 43).top
unfolding entry
entry_next n d pos = omega (arith, lt-div-mul-add {a = 2 ^ 32 * (low (over n d) 43).bottom} (low_top_pos (over n d) pos 43))

pub entry_not_below : (n d : ℕ) → 0 < d → NotBelow (entry n d + 1) (2 ^ 32) (over n d)
entry_not_below n d pos = record { some_k = 43; holds = omega (arith, entry_next n d pos) }

-- v × Up(43) ≤ 2^32 bounds every Low as well
not_above_where_fits : (n d : ℕ) → 0 < d → Admitted (over n d) 43 → Fits d n → NotAbove (entry n d) (2 ^ 32) (over n d)
not_above_where_fits n d pos admitted h = not_above_by_up (over n d) pos (entry n d) (2 ^ 32) 43 admitted h

pub whole_entry_not_above : (n : ℕ) → NotAbove (entry n 1) (2 ^ 32) (over n 1)
whole_entry_not_above n =
    ⊎_elim
    (λ l. rw (whole_entry_zero n l) (record { every = λ k. rw zero-mul zero-le }))
    (λ l. not_above_where_fits n 1 (omega arith) (omega arith) (whole_fits n l))
    (le_or_lt 23 n)

pub sixteenth_entry_not_above : (n : ℕ) → n < 16 → NotAbove (entry n 16) (2 ^ 32) (over n 16)
sixteenth_entry_not_above n h = not_above_where_fits n 16 (omega arith) (omega arith) (coarse_fits n (omega arith))

pub fine_entry_not_above : (m : ℕ) → m < 64 → NotAbove (entry m 1024) (2 ^ 32) (over m 1024)
fine_entry_not_above m h = not_above_where_fits m 1024 (omega arith) (omega arith) (fine_fits m h)

-- what an entry is below 2^32
abbrev pub loss : ℕ → ℕ → ℕ
loss d n = 2 ^ 32 - entry n d

-- A table of losses is tested at each place: what is read from it makes 2^32 with the entry.
pub loss_and_entry : (d : ℕ) (losses : List ℕ) (size : ℕ) → T (all_below (agrees (loss d) losses) size) →
    (n r : ℕ) → n < size → r ≡ get_or losses n 0 → r + entry n d ≡ 2 ^ 32
loss_and_entry d losses size t n r h e = omega (arith, e ∙ entry_is (loss d) losses size t n h, entry_at_most n d)

-- The decay table's rule, for every n.
pub whole_part : (n : ℕ) → DecayEntry n (entry n 16)
whole_part n = ⊎_elim beyond within (le_or_lt 355 n)
  where
    next : Below (divided_by (whole (2 ^ 32)) (low (over n 16) 43)) (whole (entry n 16 + 1))
    next = quotient_below _ _ (low (over n 16) 43) (entry_next n 16 (omega arith))

    within : n < 355 → DecayEntry n (entry n 16)
    within l =
        record {
          k = 43;
          admitted = omega arith;
          at_most = at_most_quotient (entry n 16) (2 ^ 32) (up (over n 16) 43) (coarse_fits n l);
          j = 43;
          next_above = next;
        }

    beyond : 355 ≤ n → DecayEntry n (entry n 16)
    beyond l =
        record {
          k = n;
          admitted = omega arith;
          at_most = at_most_quotient (entry n 16) (2 ^ 32) (up (over n 16) n) (rw (entry_zero n l) (rw zero-mul zero-le));
          j = 43;
          next_above = next;
        }

-- From 355 on it is 0.
pub whole_part_zero : (n : ℕ) → 355 ≤ n → DecayEntry n 0
whole_part_zero n h = rw (entry_zero n h) at (whole_part n)
