-- `tranche_word`: the word is there, and its place is a low number. No axioms.
use mathlib.Core.Path.{◌≡◌, ap}
use Prim.Native.Nat.{◌+◌, ◌*◌, ◌≤◌, ◌<◌}
use native.Mathlib.Omega.{arith}
use lib.ListN.{length}
use Rattle.limits.specs.SheetSize.{place_limit}
use Rattle.judgement.specs.DealSheet.{word, tranche_at}
use Rattle.judgement.proofs.LayoutLaws.{tranche_place}
use Rattle.deal.proofs.tranches.tranche_word.Goals.{Start}
use Rattle.deal.proofs.tranches.tranche_word.Goals as goal

place :
    (c : Start) → let s = c.args.sheet.now.words.now in
    (c.args.sheet.now.layout.first_tranche + 7 * c.args.i + c.args.column ≡ tranche_at s c.args.i + c.args.column) ×
    ((tranche_at s c.args.i + c.args.column < length s) × (tranche_at s c.args.i ≤ place_limit))
place c = tranche_place c.args.sheet.now.words.now c.args.sheet.now.layout c.args.sheet.now.laid_out c.args.i c.args.column c.requires.0 c.requires.1

pub overflow_mul-at : goal.overflow_mul-at
overflow_mul-at c = omega (arith, place (goal.at.overflow_mul-at c).Start)

pub overflow_add-at : goal.overflow_add-at
overflow_add-at c = omega (arith, place (goal.at.overflow_add-at c).Start)

pub overflow_add-at-2 : goal.overflow_add-at-2
overflow_add-at-2 c = omega (arith, place (goal.at.overflow_add-at-2 c).Start, c.requires.1)

pub offset_bounds-sheet-at : goal.offset_bounds-sheet-at
offset_bounds-sheet-at c = omega (arith, place (goal.at.offset_bounds-sheet-at c).Start, c.requires.1)

pub bounds-sheet-at : goal.bounds-sheet-at
bounds-sheet-at c = omega (arith, place (goal.at.bounds-sheet-at c).Start)

pub returns : goal.returns
returns c = ap (word c.args.sheet.now.words.now) (place (goal.at.returns c).Start).0
