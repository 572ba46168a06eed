-- `taken_row`: the table has a rated row at itself and an unrated one at a later one. No axioms.
use mathlib.Core.Bool.{true}
use mathlib.Core.Path.{sym, ap, ◌∙◌}
use Prim.Native.Nat.{ℕ, ◌+◌}
use native.Mathlib.Omega.{arith}
use lib.ListN.{get_or}
use Rattle.deal.specs.NextRated.{FirstRatedFrom}
use Rattle.deal.proofs.FewTranches.{few_tranches}
use Rattle.deal.proofs.NextRatedLaws.{taken_without_reference, taken_found}
use Rattle.deal.proofs.inferred.taken_row.Goals.{Start}
use Rattle.deal.proofs.inferred.taken_row.Goals as goal

-- the table's figure for the tranche's row
own_row : (c : Start) → FirstRatedFrom c.args.sheet.now.words.now c.args.i (get_or c.args.next.now c.args.i 0)
own_row c = c.requires.0.at_row c.args.i (omega arith) (omega (arith, c.requires.1))

pub returns-then-row-sheet : goal.returns-then-row-sheet
returns-then-row-sheet c =
    let row = c.reference_row-row.ensures in
    ap (λ (r : ℕ). r + 1) row ∙
    sym
    (taken_found c.args.sheet.now.words.now c.args.i
    ((own_row (goal.at.returns-then-row-sheet c).Start).none_between c.args.i (omega arith) (omega (arith, c.if-next-i.false, (own_row (goal.at.returns-then-row-sheet c).Start).at_least)))
    (omega (arith, c.if-row-sheet.true, row, few_tranches c.args.sheet.now)))

pub returns-else-row-sheet : goal.returns-else-row-sheet
returns-else-row-sheet c =
    sym
    (taken_without_reference true c.args.sheet.now.words.now c.args.i
    (omega (arith, c.if-row-sheet.false, c.reference_row-row.ensures, few_tranches c.args.sheet.now)))
