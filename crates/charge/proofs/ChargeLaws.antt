-- The pool charge at its ends: above the limit of 5% unknown exposure, where the status of every row is known, and where no row is delinquent; under approach 3 what it
-- reads, and the average. No axioms.
use mathlib.Core.Bool.{false}
use mathlib.Core.Path.{◌≡◌, refl, ap}
use Prim.Native.Nat.{◌+◌, ◌*◌, ◌-◌, ◌≤◌}
use native.Mathlib.Omega.{arith}
use borrow.Author.Tests.{le-leb}
use Rattle.numbers.proofs.RoundingLaws.{rounded_up_is, rounded_up_zero}
use Rattle.charge.specs.PoolCharge.{base_charge, late_share, known_charge, unknown_exposure, mostly_known, pool_charge}
use Rattle.irba.specs.declared.IrbFigures.{IrbFigures}
use Rattle.charge.specs.Figures.{mixed_figures}
use Rattle.charge.specs.declared.Sums.{Sums}
use Rattle.charge.specs.declared.Totals.{Totals}

-- "Above 5%: the charge is reported as 1,000,000"
pub unknown_above_limit : (q : Sums) → mostly_known q ≡ false → pool_charge q ≡ 1000000
unfolding pool_charge
unknown_above_limit q above = rw above

-- no unknown rows, nothing added
pub all_known : (q : Sums) → q.known ≡ q.all → 1 ≤ q.all.exposure → pool_charge q ≡ known_charge q
unfolding pool_charge
all_known q same positive =
    let exposures : q.known.exposure ≡ q.all.exposure = ap (λ (t : Totals). t.exposure) same in
    let total : q.known.exposure * known_charge q + unknown_exposure q * 1000000 ≡ q.all.exposure * known_charge q =
    rw exposures (omega arith) in
    rw (le-leb (20 * unknown_exposure q) q.all.exposure (omega arith), total)
    (rounded_up_is (q.all.exposure * known_charge q) q.all.exposure (known_charge q) (omega arith) (omega arith) (omega arith))

-- no delinquent rows, the base charge alone
pub none_late : (q : Sums) → q.late ≡ 0 → known_charge q ≡ base_charge q.known
unfolding known_charge
none_late q none =
    let share : late_share q ≡ 0 = rw none (rounded_up_zero q.known.nominal) in
    rounded_up_is ((1000000 - late_share q) * base_charge q.known + 500000 * late_share q) 1000000 (base_charge q.known) (omega arith)
    (rw share (omega arith)) (rw share (omega arith))

-- ---- approach 3

-- "late payers play no part", nor does which rows are known: two pools of the same totals over all rows have the same charge
pub status_plays_no_part : (f : IrbFigures) (q q' : Sums) → q'.all ≡ q.all → (mixed_figures f q').charge ≡ (mixed_figures f q).charge
status_plays_no_part f q q' same = rw same

-- "the IRB average takes the place of the pool average in the cap"
pub irba_average : (f : IrbFigures) (q : Sums) → (mixed_figures f q).average ≡ f.average
irba_average f q = refl
