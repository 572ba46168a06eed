-- `take_rows`: zeros are left where the deal infers none or no tranche is rated; else after i turns the table has what
-- the first i tranches take, which fits a byte. No axioms.
use mathlib.Core.Path.{◌≡◌, sym, ◌∙◌}
use Prim.Native.Nat.{◌<◌}
use native.Mathlib.Omega.{arith}
use lib.ListN.{get_or}
use mathlib.Core.Bool.{true}
use Rattle.judgement.specs.DealSheet.{tranche_count}
use Rattle.deal.specs.NextRated.{FirstRatedFrom}
use Rattle.deal.proofs.FewTranches.{few_tranches}
use Rattle.deal.proofs.NextRatedLaws.{none_taken, none_to_take, taken_next, taken_all, taken_small}
use Rattle.deal.proofs.inferred.take_rows.Goals.{After-next_rated, In-loop-i}
use Rattle.deal.proofs.inferred.take_rows.Goals as goal

-- the first rated row of all
first_of_all :
    (c : After-next_rated) → let s = c.args.sheet.now.words.now in
    FirstRatedFrom s 0 (get_or c.next_rated.new.next 0 0)
first_of_all c = c.next_rated.ensures.at_row 0 (omega arith) (omega arith)

-- the turn's tranche is one of the sheet's
row : (c : In-loop-i) → c.loop-i.i < tranche_count c.args.sheet.now.words.now
row c = omega (arith, few_tranches c.args.sheet.now)

pub returns-then-not-infers_ratings : goal.returns-then-not-infers_ratings
returns-then-not-infers_ratings c =
    let none = sym c.infers_ratings.ensures ∙ c.if-not-infers_ratings.true in
    none_taken c.args.d.now c.args.sheet.now.words.now _ c.requires none (few_tranches c.args.sheet.now).1

pub returns-then-next-tranches : goal.returns-then-next-tranches
returns-then-next-tranches c =
    none_to_take c.args.d.now c.args.sheet.now.words.now _ _ c.requires (first_of_all (goal.at.returns-then-next-tranches c).After-next_rated) (omega (arith, c.if-next-tranches.true, few_tranches c.args.sheet.now)) (few_tranches c.args.sheet.now).1

pub taken_row-requires : goal.taken_row-requires
taken_row-requires c = (c.next_rated.ensures, row (goal.at.taken_row-requires c).In-loop-i)

pub overflow_cast-taken : goal.overflow_cast-taken
overflow_cast-taken c =
    omega (arith, c.taken_row.ensures, taken_small true c.args.sheet.now.words.now c.loop-i.i, few_tranches c.args.sheet.now)

pub bounds-taken-i : goal.bounds-taken-i
bounds-taken-i c = omega (arith, row (goal.at.bounds-taken-i c).In-loop-i, few_tranches c.args.sheet.now)

pub loop-i-preserved : goal.loop-i-preserved
loop-i-preserved c =
    let turn = row (goal.at.loop-i-preserved c).In-loop-i in
    taken_next c.args.sheet.now.words.now c.loop-i.taken c.loop-i.i _ (omega (arith, turn, few_tranches c.args.sheet.now)) c.loop-i.invariant c.taken_row.ensures

pub returns : goal.returns
returns c =
    let all : c.loop-i.i ≡ tranche_count c.args.sheet.now.words.now = omega (arith, few_tranches c.args.sheet.now) in
    let by = sym c.infers_ratings.ensures ∙ c.if-not-infers_ratings.false in
    taken_all c.args.d.now c.args.sheet.now.words.now c.loop-i.taken by (rw all at c.loop-i.invariant)
