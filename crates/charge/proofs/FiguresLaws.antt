-- The figures of a pool: 01's, or under approach 3 02's, where its sums and its IRB section are within their limits, and never above the highest. No axioms.
use mathlib.Core.Bool.{◌&&◌}
use mathlib.Core.Path.{◌≡◌}
use Prim.Native.Nat.{◌≤◌}
use native.Mathlib.Nat.{le_refl}
use Rattle.numbers.proofs.Tests.{at_cond, both_true}
use Rattle.charge.specs.Figures.{pool_figures, figures, mixed_figures, irba_figures}
use Rattle.charge.specs.SumLimits.{sums_within, SumLimits, irb_within, IrbLimits}
use Rattle.charge.specs.declared.Figures.{Figures}
use Rattle.charge.specs.declared.Sums.{Sums}
use Rattle.irba.specs.declared.IrbFigures.{IrbFigures}
use Rattle.charge.proofs.PoolLaws.{all_limits, pool_charge_at_most_million, mixed_charge_at_most_million, pool_average_at_most}
use Rattle.charge.proofs.SumLimitsLaw.{limits_of_test, test_of_limits, irb_limits_of_test, irb_test_of_limits}

pub figures_within : (q : Sums) → SumLimits q → figures q ≡ pool_figures q
unfolding figures
figures_within q l = rw (test_of_limits q l)

pub figures_at_most_lem : (q : Sums) → ((figures q).charge ≤ 1000000) × ((figures q).average ≤ 125000)
unfolding figures
figures_at_most_lem q =
    at_cond (λ (f : Figures). (f.charge ≤ 1000000) × (f.average ≤ 125000)) (sums_within q) _ _
    (λ e.
    let l = limits_of_test q e in
    (pool_charge_at_most_million q l, pool_average_at_most q l))
    (λ _. (le_refl 1000000, le_refl 125000))

-- ---- approach 3

pub irba_figures_within : (f : IrbFigures) (q : Sums) → IrbLimits f → SumLimits q → irba_figures f q ≡ mixed_figures f q
unfolding irba_figures
irba_figures_within f q k l = rw (test_of_limits q l, irb_test_of_limits f k)

pub irba_figures_at_most : (f : IrbFigures) (q : Sums) → ((irba_figures f q).charge ≤ 1000000) × ((irba_figures f q).average ≤ 125000)
unfolding irba_figures
irba_figures_at_most f q =
    at_cond (λ (x : Figures). (x.charge ≤ 1000000) × (x.average ≤ 125000)) (sums_within q && irb_within f) _ _
    (λ e.
    let both = both_true (sums_within q) (irb_within f) e in
    let k = irb_limits_of_test f both.1 in
    (mixed_charge_at_most_million f q.all (all_limits q (limits_of_test q both.0)) k.share_most k.charge_most, k.average_most))
    (λ _. (le_refl 1000000, le_refl 125000))
