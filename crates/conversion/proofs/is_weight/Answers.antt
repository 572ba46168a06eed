-- `is_weight`: the tests of the place against the layout are those of the sheet's sections. No axioms.
use mathlib.Core.Path.{sym, ◌∙◌}
use native.Mathlib.Omega.{arith}
use borrow.Author.Tests.{leb-true, ltb-true, ltb-false, lt-ltb, le-ltb}
use Rattle.judgement.specs.DealSheet.{pool_at, tranches_at}
use Rattle.judgement.proofs.LayoutLaws.{first_row_is, first_tranche_is}
use Rattle.conversion.proofs.is_weight.Goals.{then-first-p, else-first-p}
use Rattle.conversion.proofs.is_weight.Goals as goal

pub overflow_sub-sheet : goal.overflow_sub-sheet
overflow_sub-sheet c = omega (arith, first_tranche_is _ _ c.args.sheet.now.laid_out)

pub returns-then-p-sheet : goal.returns-then-p-sheet
returns-then-p-sheet c =
    let s = c.args.sheet.now.words.now in
    let sheet = c.args.sheet.now.laid_out in
    elim c.if-first-p.branch [
      | then-first-p w ↦
          let before = ltb-true _ _ (sym w.value-is ∙ c.if-p-sheet.true) in
          simp (
            lt-ltb (pool_at s) c.args.p (omega (arith, first_row_is _ _ sheet)),
            lt-ltb c.args.p (tranches_at s) (omega (arith, first_tranche_is _ _ sheet)),
            first_row_is _ _ sheet,
          )
      | else-first-p w ↦ let before = leb-true _ _ (sym w.value-is ∙ c.if-p-sheet.true) in absurd (omega arith)
    ]

pub returns-else-p-sheet : goal.returns-else-p-sheet
returns-else-p-sheet c =
    let s = c.args.sheet.now.words.now in
    let sheet = c.args.sheet.now.laid_out in
    elim c.if-first-p.branch [
      | then-first-p w ↦
          let behind = ltb-false _ _ (sym w.value-is ∙ c.if-p-sheet.false) in
          c.if-p-sheet.false ∙
          sym
          (simp (
            lt-ltb (pool_at s) c.args.p (omega (arith, first_row_is _ _ sheet)),
            le-ltb c.args.p (tranches_at s) (omega (arith, first_tranche_is _ _ sheet)),
          ))
      | else-first-p w ↦ c.if-p-sheet.false ∙ sym (simp (le-ltb (pool_at s) c.args.p (omega (arith, first_row_is _ _ sheet))))
    ]
