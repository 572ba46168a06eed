-- Over sums within their limits no charge and no share is above 1,000,000, and no average is above 125,000; the base charge of a mixed one is rounded up first; over weights in percent base charge and average are those of 01's own figures. No axioms.
use mathlib.Core.Bool.{false}
use mathlib.Core.Path.{◌≡◌, refl, ap}
use Prim.Native.Nat.{ℕ, ◌+◌, ◌*◌, ◌-◌, ◌≤◌}
use native.Mathlib.Nat.{le_refl, mul-le-mul_left}
use native.Mathlib.Omega.{arith}
use Rattle.numbers.specs.Rounding.{rounded_up}
use Rattle.numbers.proofs.RoundingLaws.{rounded_up_at_most}
use Rattle.numbers.proofs.Tests.{at_cond}
use Rattle.charge.specs.PoolCharge.{base_charge, late_share, known_charge, unknown_exposure, mostly_known, pool_charge, mixed_charge, pool_average}
use Rattle.charge.specs.SumLimits.{TotalsLimits, SumLimits}
use Rattle.irba.specs.declared.IrbFigures.{IrbFigures}
use Rattle.charge.specs.declared.Sums.{Sums}
use Rattle.charge.specs.declared.Totals.{Totals}

pub all_limits : (q : Sums) → SumLimits q → TotalsLimits q.all
all_limits q l = record { exposure_most = l.exposure_most; weighted_at_most = l.weighted_at_most }

pub known_limits : (q : Sums) → SumLimits q → TotalsLimits q.known
known_limits q l = record { exposure_most = omega (arith, l.exposure_most, l.known_among_all); weighted_at_most = l.known_weighted_most }

pub base_at_most_million : (t : Totals) → TotalsLimits t → base_charge t ≤ 1000000
base_at_most_million t l = rounded_up_at_most _ _ 1000000 (omega (arith, l.weighted_at_most))

pub late_at_most_million : (q : Sums) → SumLimits q → late_share q ≤ 1000000
late_at_most_million q l = rounded_up_at_most _ _ 1000000 (omega arith)

-- what the late share and the rest are charged, before it is divided by a million
pub known_parts_at_most : (q : Sums) → SumLimits q → (1000000 - late_share q) * base_charge q.known + 500000 * late_share q ≤ 1000000 * 1000000
known_parts_at_most q l = total (base_charge q.known) (late_share q) (base_at_most_million q.known (known_limits q l)) (late_at_most_million q l)
  where
    total : (base late : ℕ) → base ≤ 1000000 → late ≤ 1000000 → (1000000 - late) * base + 500000 * late ≤ 1000000 * 1000000
    total base late b h = omega (arith, mul-le-mul_left (1000000 - late) b)

pub known_charge_at_most_million : (q : Sums) → SumLimits q → known_charge q ≤ 1000000
unfolding known_charge
known_charge_at_most_million q l = rounded_up_at_most _ 1000000 1000000 (known_parts_at_most q l)

pub pool_charge_at_most_million : (q : Sums) → SumLimits q → pool_charge q ≤ 1000000
unfolding pool_charge
pool_charge_at_most_million q l =
    at_cond (λ x. x ≤ 1000000) (mostly_known q) _ _
    (λ e.
    rounded_up_at_most (q.known.exposure * known_charge q + unknown_exposure q * 1000000) q.all.exposure 1000000
    (omega (arith, mul-le-mul_left q.known.exposure (known_charge_at_most_million q l))))
    (λ e. le_refl 1000000)

-- the base charge is rounded up before it is mixed in: 20.5 millionths count as 21, of which a rest of 5% is 1.05
pub base_rounded_first :
    mixed_charge (record { charge = 0; loss = 0; loans = 1; retail = false; share = 950000; average = 0 }) (record { exposure = 1600; nominal = 1; weighted = 4100 }) ≡ 2
unfolding mixed_charge
base_rounded_first = refl

pub mixed_charge_at_most_million : (f : IrbFigures) (t : Totals) → TotalsLimits t → f.share ≤ 1000000 → f.charge ≤ 1000000 → mixed_charge f t ≤ 1000000
unfolding mixed_charge
mixed_charge_at_most_million f t l share charge =
    rounded_up_at_most (f.share * f.charge + (1000000 - f.share) * base_charge t) 1000000 1000000
    (mixed f.share f.charge (base_charge t) share charge (base_at_most_million t l))
  where
    mixed : (x k b : ℕ) → x ≤ 1000000 → k ≤ 1000000 → b ≤ 1000000 → x * k + (1000000 - x) * b ≤ 1000000 * 1000000
    mixed x k b most one base = omega (arith, mul-le-mul_left x one, mul-le-mul_left (1000000 - x) base)

pub pool_average_at_most : (q : Sums) → SumLimits q → pool_average q ≤ 125000
pool_average_at_most q l = rounded_up_at_most _ _ 125000 (omega arith)

-- ---- 02, S-9: "charge and cap come out as before.": where the weights are in percent and their weighted sum is w, the sum in hundredths is 100 × w, and 01's figures are 800 and 100

pub same_base_charge : (t : Totals) (w : ℕ) → t.weighted ≡ 100 * w → base_charge t ≡ rounded_up (800 * w) t.exposure
same_base_charge t w e = ap (λ (x : ℕ). rounded_up x t.exposure) (omega (arith, e))

pub same_average : (q : Sums) (w : ℕ) → q.all.weighted ≡ 100 * w → pool_average q ≡ rounded_up (100 * w) q.all.exposure
same_average q w e = ap (λ (x : ℕ). rounded_up x q.all.exposure) e
