-- `layout_of`: the facts are counted and the pool has at most so many rows, so every word that is read is there. No axioms.
use mathlib.Core.List.{List}
use mathlib.Core.Path.{◌≡◌}
use Prim.Native.Nat.{ℕ, ◌+◌, ◌*◌, ◌≤◌, ◌<◌}
use native.Mathlib.Omega.{arith}
use lib.ListN.{length, get_or}
use Rattle.limits.specs.SheetSize.{facts_least, facts_most, rows_most}
use Rattle.judgement.specs.DealSheet.{pool_at, rows, tranches_at, tranche_count, needed, layout}
use Rattle.judgement.specs.Refusals.{judged}
use Rattle.judgement.specs.Verdicts.{Sound}
use Rattle.judgement.proofs.SheetLimits.{facts_within, pool_at_within, facts_counted, pool_counted, tranches_counted, rows_within, fact_there, tranche_count_there, irb_at_most}
use Rattle.judgement.proofs.sheet.layout_of.Goals as goal

module _ (s : List ℕ) (e : judged s (needed s) ≡ Sound) where
  facts : (facts_least ≤ get_or s 0 0) × (get_or s 0 0 ≤ facts_most)
  facts = facts_within s (facts_counted s e)

  rows_few : get_or s (1 + get_or s 0 0) 0 ≤ rows_most
  unfolding rows pool_at
  rows_few = (rows_within s (pool_counted s e)).1

  count_there : 1 + get_or s 0 0 + 1 + 4 * get_or s (1 + get_or s 0 0) 0 < length s
  unfolding tranches_at rows pool_at
  count_there = tranche_count_there s e

  pool_there : 1 + get_or s 0 0 < length s
  unfolding pool_at
  pool_there = fact_there s (pool_at s) e (omega arith)

  -- the facts that every sheet has
  known_fact_there : (p : ℕ) → p ≤ facts_least → p < length s
  known_fact_there p h = fact_there s p e (omega (arith, pool_at_within s (facts_counted s e)))

pub bounds-s-0 : goal.bounds-s-0
bounds-s-0 c = known_fact_there _ c.requires 0 (omega arith)

pub overflow_add-pool : goal.overflow_add-pool
overflow_add-pool c = omega (arith, facts _ c.requires)

pub offset_bounds-s-pool : goal.offset_bounds-s-pool
offset_bounds-s-pool c = omega (arith, facts _ c.requires)

pub bounds-s-pool : goal.bounds-s-pool
bounds-s-pool c = pool_there _ c.requires

pub overflow_add-tranches : goal.overflow_add-tranches
overflow_add-tranches c = omega (arith, facts _ c.requires)

pub overflow_mul-tranches : goal.overflow_mul-tranches
overflow_mul-tranches c = omega (arith, rows_few _ c.requires)

pub overflow_add-tranches-2 : goal.overflow_add-tranches-2
overflow_add-tranches-2 c = omega (arith, facts _ c.requires, rows_few _ c.requires)

pub bounds-s-1 : goal.bounds-s-1
bounds-s-1 c = known_fact_there _ c.requires _ (omega arith)

pub bounds-s-2 : goal.bounds-s-2
bounds-s-2 c = known_fact_there _ c.requires _ (omega arith)

pub bounds-s-3 : goal.bounds-s-3
bounds-s-3 c = known_fact_there _ c.requires _ (omega arith)

pub bounds-s-4 : goal.bounds-s-4
bounds-s-4 c = known_fact_there _ c.requires _ (omega arith)

pub overflow_add-result : goal.overflow_add-result
overflow_add-result c = omega (arith, facts _ c.requires)

pub overflow_add-result-2 : goal.overflow_add-result-2
overflow_add-result-2 c =
    omega (arith, facts _ c.requires, rows_few _ c.requires)

pub offset_bounds-s-tranches : goal.offset_bounds-s-tranches
offset_bounds-s-tranches c =
    omega (arith, facts _ c.requires, rows_few _ c.requires)

pub bounds-s-tranches : goal.bounds-s-tranches
bounds-s-tranches c = count_there _ c.requires

pub invariant_of-counted : goal.invariant_of-counted
invariant_of-counted c = record { counted = tranches_counted _ c.requires }

pub irb_figures-requires : goal.irb_figures-requires
irb_figures-requires c =
    let at = irb_at_most c.args.s.now (tranches_counted _ c.requires) in
    (c.irb_at.ensures, omega (arith, c.irb_at.ensures, at))

pub returns : goal.returns
unfolding layout tranche_count tranches_at rows pool_at
returns c =
    simp (
      c.irb_figures.ensures,
      c.in_hundredths.ensures,
      c.fact_at-2.ensures,
      c.fact_at.ensures,
    )
