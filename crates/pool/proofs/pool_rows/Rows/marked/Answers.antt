-- `Rows::marked`: before a row what is marked is that of the rows before it. No axioms.
use mathlib.Core.Path.{◌∙◌}
use native.Mathlib.Omega.{arith}
use Rattle.pool.proofs.PoolLaws.{marked_limits}
use Rattle.pool.proofs.TotalsLaws.{marked_none, marked_next, marked_as_far}
use Rattle.pool.proofs.pool_rows.Rows.marked.Goals as goal

pub loop-number-init : goal.loop-number-init
loop-number-init c = record { not_past = omega arith; so_far = marked_none c.args.self.sheet.now.words.now _ }

pub with_marked-m-requires : goal.with_marked-m-requires
with_marked-m-requires c =
    let x = c.args.self in
    let l = c.loop-number in
    rw l.invariant.so_far (marked_limits x.sheet.now.words.now x.sheet.now.laid_out.good x.first l.number l.number (omega arith) (omega arith))

pub loop-number-preserved : goal.loop-number-preserved
loop-number-preserved c =
    let x = c.args.self in
    let l = c.loop-number in
    record {
      not_past = omega arith;
      so_far = c.with_marked-m.ensures ∙ rw l.invariant.so_far (marked_next x.sheet.now.words.now x.first l.number l.auto.number);
    }

pub returns : goal.returns
returns c =
    let x = c.args.self in
    let l = c.loop-number in
    l.invariant.so_far ∙ marked_as_far x.sheet.now.words.now x.first l.number x.end (omega arith)
