-- `Rows::totals`: before a row the totals are those over the rows before it. No axioms.
use mathlib.Core.Bool.{true}
use mathlib.Core.Path.{refl, ◌∙◌}
use native.Mathlib.Nat.{le_refl}
use native.Mathlib.Omega.{arith}
use Rattle.pool.proofs.PoolLaws.{total_limits}
use Rattle.pool.proofs.TotalsLaws.{totals_none, totals_next, totals_as_far}
use Rattle.pool.proofs.pool_rows.Rows.totals.Goals as goal

pub loop-number-init : goal.loop-number-init
loop-number-init c = record { not_past = omega arith; so_far = totals_none c.args.self.sheet.now.words.now (λ k. true) _ _ (le_refl _) }

pub with_row-t-requires : goal.with_row-t-requires
with_row-t-requires c =
    let x = c.args.self in
    let l = c.loop-number in
    rw l.invariant.so_far (total_limits x.sheet.now.words.now x.sheet.now.laid_out.good (λ k. true) x.first l.number l.number (omega arith) (omega arith))

pub loop-number-preserved : goal.loop-number-preserved
loop-number-preserved c =
    let x = c.args.self in
    let l = c.loop-number in
    record {
      not_past = omega arith;
      so_far = c.with_row-t.ensures ∙ rw l.invariant.so_far (totals_next x.sheet.now.words.now (λ k. true) x.first l.number l.auto.number refl);
    }

pub returns : goal.returns
returns c =
    let x = c.args.self in
    let l = c.loop-number in
    l.invariant.so_far ∙ totals_as_far x.sheet.now.words.now (λ k. true) x.first l.number x.end (omega arith)
