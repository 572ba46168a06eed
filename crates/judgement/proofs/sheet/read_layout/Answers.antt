-- `read_layout`: a count above its limit ends the reading, and where none is, every place is low. No axioms.
use native.Mathlib.Omega.{arith}
use Rattle.judgement.specs.DealSheet.{tranches_at, layout}
use Rattle.judgement.proofs.ReadLayout.{rows_read, pool_read, tranches_read, end_read, facts_above, rows_above, tranches_above, none_above}
use Rattle.judgement.proofs.sheet.read_layout.Goals as goal

pub returns-then-facts : goal.returns-then-facts
returns-then-facts c = facts_above _ (omega (arith, c.word_at-facts.ensures))

pub returns-then-rows : goal.returns-then-rows
returns-then-rows c =
    rows_above _ (omega (arith, c.word_at-facts.ensures)) (omega (arith, rows_read c.args.s.now c.word_at-facts.ensures c.word_at-rows.ensures))

pub returns-then-tranches : goal.returns-then-tranches
returns-then-tranches c =
    let s = c.args.s.now in
    let many = rows_read s c.word_at-facts.ensures c.word_at-rows.ensures in
    tranches_above s (omega (arith, c.word_at-facts.ensures)) (omega (arith, many))
    (omega (arith, tranches_read s c.word_at-facts.ensures c.word_at-rows.ensures c.word_at-tranches.ensures))

pub irb_figures-requires : goal.irb_figures-requires
irb_figures-requires c =
    let end = end_read c.args.s.now c.word_at-facts.ensures c.word_at-rows.ensures c.word_at-tranches.ensures in
    (end, omega arith)

pub returns : goal.returns
unfolding layout tranches_at
returns c =
    let s = c.args.s.now in
    let facts = c.word_at-facts.ensures in
    let rows_is = rows_read s facts c.word_at-rows.ensures in
    let tranches_is = tranches_read s facts c.word_at-rows.ensures c.word_at-tranches.ensures in
    simp (
      none_above s (omega arith) (omega (arith, rows_is)) (omega (arith, tranches_is)),
      c.irb_figures.ensures,
      c.in_hundredths.ensures,
      c.fact_at-2.ensures,
      c.word_at-4.ensures,
      c.word_at-3.ensures,
      c.fact_at.ensures,
      c.word_at-2.ensures,
      c.word_at.ensures,
      pool_read s facts c.word_at-rows.ensures,
      tranches_is,
      rows_is,
    )
