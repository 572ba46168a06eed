-- The charge and the average of a sheet's pool, and the figures of its IRB section, are within their limits. No axioms.
use mathlib.Core.List.{List}
use mathlib.Core.Path.{◌≡◌}
use Prim.Native.Nat.{ℕ, ◌≤◌}
use Rattle.numbers.proofs.Tests.{at_cond}
use Rattle.charge.specs.Figures.{pool_figures, mixed_figures}
use Rattle.charge.specs.SumLimits.{IrbLimits}
use Rattle.charge.specs.declared.Figures.{Figures}
use Rattle.charge.proofs.PoolLaws.{all_limits, pool_charge_at_most_million, mixed_charge_at_most_million, pool_average_at_most}
use Rattle.judgement.specs.DealSheet.{irb_figures, needed, layout}
use Rattle.judgement.specs.Refusals.{judged}
use Rattle.judgement.specs.Verdicts.{Sound}
use Rattle.judgement.proofs.SheetLimits.{irb_figures_within}
use Rattle.pool.specs.PoolSums.{pool_sums}
use Rattle.pool.proofs.PoolLaws.{sum_limits}
use Rattle.deal.specs.Lines.{irba_for, terms}

-- ---- the limits

pub irb_limits : (s : List ℕ) → judged s (needed s) ≡ Sound → IrbLimits (irb_figures s)
irb_limits s accepted =
    let within = irb_figures_within s accepted in
    record { share_most = within.0; charge_most = within.1.0; average_most = within.1.1 }

pub charge_at_most_million : (s : List ℕ) → judged s (needed s) ≡ Sound → (terms s).charge ≤ 1000000
unfolding terms layout
charge_at_most_million s accepted =
    let sums = sum_limits s accepted in
    let irb = irb_limits s accepted in
    at_cond (λ (f : Figures). f.charge ≤ 1000000) (irba_for (layout s)) (mixed_figures (irb_figures s) (pool_sums s)) (pool_figures (pool_sums s))
    (λ _. mixed_charge_at_most_million (irb_figures s) (pool_sums s).all (all_limits (pool_sums s) sums) irb.share_most irb.charge_most)
    (λ _. pool_charge_at_most_million (pool_sums s) sums)

pub average_at_most : (s : List ℕ) → judged s (needed s) ≡ Sound → (terms s).average ≤ 125000
unfolding terms layout
average_at_most s accepted =
    at_cond (λ (f : Figures). f.average ≤ 125000) (irba_for (layout s)) (mixed_figures (irb_figures s) (pool_sums s)) (pool_figures (pool_sums s))
    (λ _. (irb_limits s accepted).average_most)
    (λ _. pool_average_at_most (pool_sums s) (sum_limits s accepted))
