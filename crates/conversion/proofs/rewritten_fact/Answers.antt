-- `rewritten_fact`: the unit is the other one, and any other fact is the sheet's, 0 where its list is shorter. No axioms.
use mathlib.Core.List.{List}
use mathlib.Core.Path.{◌≡◌, sym, ◌∙◌}
use Prim.Native.Nat.{ℕ, ◌≤◌, ◌<◌}
use native.Mathlib.Omega.{arith}
use borrow.Author.Tests.{le-leb, lt-leb}
use lib.ListN.{length}
use Rattle.judgement.specs.DealSheet.{word, unit_at, pool_at, needed}
use Rattle.judgement.specs.Refusals.{judged}
use Rattle.judgement.specs.Verdicts.{Sound}
use Rattle.judgement.proofs.LayoutLaws.{hundredths_is}
use Rattle.judgement.proofs.SheetLimits.{fact_there}
use Rattle.conversion.proofs.RewrittenLaws.{unit_rewritten, fact_rewritten}
use Rattle.conversion.proofs.rewritten_fact.Goals as goal

-- a fact that the list has is there to be read
listed_there : (s : List ℕ) (p : ℕ) → judged s (needed s) ≡ Sound → p ≤ word s 0 → p < length s
unfolding pool_at
listed_there s p good h = fact_there s p good (omega arith)

pub returns-then-p-eq-UNIT_AT : goal.returns-then-p-eq-UNIT_AT
returns-then-p-eq-UNIT_AT c =
    let here : c.args.p ≡ unit_at = omega arith in
    let sheet = c.args.sheet.now.laid_out in
    rw (here, c.other_unit.ensures, hundredths_is _ _ sheet) (sym (unit_rewritten _ sheet.good))

pub bounds-sheet-0 : goal.bounds-sheet-0
bounds-sheet-0 c = listed_there _ 0 c.args.sheet.now.laid_out.good (omega arith)

pub bounds-sheet-p : goal.bounds-sheet-p
bounds-sheet-p c = listed_there _ c.args.p c.args.sheet.now.laid_out.good (omega arith)

pub returns-then-p-sheet : goal.returns-then-p-sheet
returns-then-p-sheet c =
    let s = c.args.sheet.now.words.now in
    sym (fact_rewritten s c.args.sheet.now.laid_out.good c.args.p (omega arith) (omega arith) ∙ simp (le-leb c.args.p (word s 0) (omega arith)))

pub returns-else-p-sheet : goal.returns-else-p-sheet
returns-else-p-sheet c =
    let s = c.args.sheet.now.words.now in
    sym (fact_rewritten s c.args.sheet.now.laid_out.good c.args.p (omega arith) (omega arith) ∙ simp (lt-leb c.args.p (word s 0) (omega arith)))
