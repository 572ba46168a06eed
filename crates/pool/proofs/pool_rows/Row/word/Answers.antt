-- `Row::word`: the word is there, and its place is a low number. No axioms.
use mathlib.Core.Path.{◌≡◌, ap}
use Prim.Native.Nat.{◌+◌, ◌*◌, ◌≤◌, ◌<◌}
use native.Mathlib.Omega.{arith}
use lib.ListN.{length}
use Rattle.limits.specs.SheetSize.{place_limit}
use Rattle.judgement.specs.DealSheet.{word, row_at}
use Rattle.judgement.proofs.LayoutLaws.{row_place}
use Rattle.pool.proofs.pool_rows.Row.word.Goals.{Start}
use Rattle.pool.proofs.pool_rows.Row.word.Goals as goal

place :
    (c : Start) → let sheet = c.args.self.sheet.now in
    let i = c.args.self.number in
    (sheet.layout.first_row + 4 * i + c.args.column ≡ row_at sheet.words.now i + c.args.column) ×
    ((row_at sheet.words.now i + c.args.column < length sheet.words.now) × (row_at sheet.words.now i ≤ place_limit))
place c =
    let row = c.args.self in
    row_place row.sheet.now.words.now row.sheet.now.layout row.sheet.now.laid_out row.number c.args.column row.there c.requires

pub overflow_mul-at : goal.overflow_mul-at
overflow_mul-at c = omega (arith, place (goal.at.overflow_mul-at c).Start)

pub overflow_add-at : goal.overflow_add-at
overflow_add-at c = omega (arith, place (goal.at.overflow_add-at c).Start)

pub overflow_add-at-2 : goal.overflow_add-at-2
overflow_add-at-2 c = omega (arith, place (goal.at.overflow_add-at-2 c).Start)

pub offset_bounds-self-at : goal.offset_bounds-self-at
offset_bounds-self-at c = omega (arith, place (goal.at.offset_bounds-self-at c).Start)

pub bounds-self-at : goal.bounds-self-at
bounds-self-at c = omega (arith, place (goal.at.bounds-self-at c).Start)

pub returns : goal.returns
returns c = ap (word c.args.self.sheet.now.words.now) (place (goal.at.returns c).Start).0
