-- `rating_row`: the table has a place for each tranche, and what it says there is the row whose ratings count. No
-- axioms.
use mathlib.Core.Path.{◌≡◌, subst}
use Prim.Native.Nat.{◌-◌}
use mathlib.Core.Bool.{cond}
use native.Mathlib.Omega.{arith}
use lib.Dec.{eqb}
use lib.ListN.{get_or}
use borrow.Author.Tests.{ne_eqb}
use Rattle.weights.specs.declared.Terms.{Terms}
use Rattle.deal.specs.InferredRatings.{rating_row}
use Rattle.deal.specs.Lines.{terms}
use Rattle.deal.specs.NextRated.{TakenRows}
use Rattle.deal.proofs.FewTranches.{few_tranches}
use Rattle.deal.proofs.NextRatedLaws.{row_of_taken}
use Rattle.deal.proofs.prepared.PreparedDeal.rating_row.Goals.{Start}
use Rattle.deal.proofs.prepared.PreparedDeal.rating_row.Goals as goal

-- what the table says
told :
    (c : Start) → let n = get_or c.args.self.now.taken.now c.args.i 0 in
    cond (eqb n 0) c.args.i (n - 1) ≡ rating_row (terms c.args.self.now.sheet.now.words.now) c.args.self.now.sheet.now.words.now c.args.i
told c =
    let table = subst (λ (d : Terms). TakenRows d c.args.self.now.sheet.now.words.now c.args.self.now.taken.now) c.args.self.now.its_terms c.args.self.now.its_taken in
    row_of_taken (terms c.args.self.now.sheet.now.words.now) c.args.self.now.sheet.now.words.now c.args.i _ (table.at_row c.args.i c.requires)

pub bounds-self-i : goal.bounds-self-i
bounds-self-i c = omega (arith, few_tranches c.args.self.now.sheet.now)

pub returns-then-row-eq0 : goal.returns-then-row-eq0
returns-then-row-eq0 c = rw c.if-row-eq0.true at (told (goal.at.returns-then-row-eq0 c).Start)

pub returns-else-row-eq0 : goal.returns-else-row-eq0
returns-else-row-eq0 c = rw (ne_eqb _ _ c.if-row-eq0.false) at (told (goal.at.returns-else-row-eq0 c).Start)
