-- `reference_row`: none of the rows before the turn's is a reference, and the turn's is rated; the first reference is the row of 02's words. The measure is what is left of the tranches. No axioms.
use mathlib.Core.Bool.{false}
use mathlib.Core.Path.{◌≡◌, sym, ◌∙◌}
use Prim.Native.Nat.{◌+◌, ◌<◌}
use native.Mathlib.Omega.{arith}
use lib.ListN.{get_or}
use Rattle.judgement.specs.DealSheet.{tranche_count, months}
use Rattle.judgement.proofs.LayoutLaws.{reporting_date_is}
use Rattle.deal.specs.InferredRatings.{is_reference}
use Rattle.deal.specs.NextRated.{FirstRatedFrom}
use Rattle.deal.proofs.FewTranches.{few_tranches}
use Rattle.deal.proofs.InferredLaws.{reference_is, first_reference, no_reference, senior_no_reference, shorter_no_reference}
use Rattle.deal.proofs.NextRatedLaws.{none_up_to, passed_over}
use Rattle.deal.proofs.inferred.reference_row.Goals.{After-maturity_months, After-maturity_months-months, In-loop-j, Joined-else-class-tranche_word, else-class-tranche_word-via-then-class-tranche_word+else-months-maturity_months, else-class-tranche_word-via-else-class-tranche_word}
use Rattle.deal.proofs.inferred.reference_row.Goals as goal

-- the turn's row is one of the sheet's
row : (c : In-loop-j) → c.loop-j.j < tranche_count c.args.sheet.now.words.now
row c = omega (arith, few_tranches c.args.sheet.now)

-- the months of the tranche and of the turn's row, by the layout's reporting date
own_months :
    (c : After-maturity_months-months) → c.maturity_months-months.result ≡ months c.args.sheet.now.words.now c.args.i
own_months c =
    c.maturity_months-months.ensures ∙ rw (reporting_date_is _ _ c.args.sheet.now.laid_out, c.tranche_word.ensures)

row_months :
    (c : After-maturity_months) → c.maturity_months.result ≡ months c.args.sheet.now.words.now c.loop-j.j
row_months c =
    c.maturity_months.ensures ∙ rw (reporting_date_is _ _ c.args.sheet.now.laid_out, c.tranche_word-then-class-tranche_word.ensures)

-- the next rated row is a later one
later :
    (c : Joined-else-class-tranche_word) → FirstRatedFrom c.args.sheet.now.words.now (c.loop-j.j + 1) (get_or c.args.next.now (c.loop-j.j + 1) 0)
later c = c.requires.0.at_row (c.loop-j.j + 1) (omega arith) (omega (arith, few_tranches c.args.sheet.now))

pub tranche_word-requires-in-loop-j : goal.tranche_word-requires-in-loop-j
tranche_word-requires-in-loop-j c = (row (goal.at.tranche_word-requires-in-loop-j c).In-loop-j, omega arith)

pub tranche_word-requires-then-class-tranche_word : goal.tranche_word-requires-then-class-tranche_word
tranche_word-requires-then-class-tranche_word c = (row (goal.at.tranche_word-requires-then-class-tranche_word c).In-loop-j, omega arith)

pub returns-then-months-maturity_months : goal.returns-then-months-maturity_months
returns-then-months-maturity_months c =
    let s = c.args.sheet.now.words.now in
    let turn = row (goal.at.returns-then-months-maturity_months c).In-loop-j in
    sym
    (first_reference s c.args.i c.args.sheet.now.laid_out.good c.loop-j.j turn
    (reference_is s c.args.i c.loop-j.j
    (record {
      among = turn;
      is_rated = c.loop-j.invariant.1.0 turn;
      own_or_junior = omega (arith, c.if-class-tranche_word.true, c.tranche_word-in-loop-j.ensures, c.tranche_word-class.ensures);
      as_long = omega (arith, c.if-months-maturity_months.true, row_months (goal.at.returns-then-months-maturity_months c).After-maturity_months, own_months (goal.at.returns-then-months-maturity_months c).After-maturity_months-months);
    }))
    c.loop-j.invariant.1.1)

pub bounds-next-j : goal.bounds-next-j
bounds-next-j c = omega (arith, few_tranches c.args.sheet.now)

pub loop-j-smaller : goal.loop-j-smaller
loop-j-smaller c = omega (arith, (later (goal.at.loop-j-smaller c).Joined-else-class-tranche_word).at_least)

-- the turn's row did not serve: its class is senior to the tranche's, or its maturity shorter
pub loop-j-preserved : goal.loop-j-preserved
loop-j-preserved c =
    let s = c.args.sheet.now.words.now in
    let next = later (goal.at.loop-j-preserved c).Joined-else-class-tranche_word in
    let turn : is_reference s c.args.i c.loop-j.j ≡ false =
    elim c.else-class-tranche_word.branch [
      | else-class-tranche_word-via-then-class-tranche_word+else-months-maturity_months w ↦
          let date = reporting_date_is _ _ c.args.sheet.now.laid_out in
          let own : c.maturity_months-months.result ≡ months s c.args.i =
          c.maturity_months-months.ensures ∙ rw (date, c.tranche_word.ensures) in
          let told : w.maturity_months.result ≡ months s c.loop-j.j =
          w.maturity_months.ensures ∙ rw (date, w.tranche_word-then-class-tranche_word.ensures) in
          shorter_no_reference s c.args.i c.loop-j.j (omega (arith, w.if-months-maturity_months.false, told, own))
      | else-class-tranche_word-via-else-class-tranche_word w ↦
          senior_no_reference s c.args.i c.loop-j.j (omega (arith, w.if-class-tranche_word.false, c.tranche_word-in-loop-j.ensures, c.tranche_word-class.ensures))
    ] in
    (next.at_most, (next.is_rated, passed_over s c.args.i _ _ next (none_up_to c.loop-j.invariant.1.1 turn)))

pub returns : goal.returns
returns c =
    let few = few_tranches c.args.sheet.now in
    few.0 ∙ sym (no_reference c.args.sheet.now.words.now c.args.i (λ k l. c.loop-j.invariant.1.1 k (omega (arith, few))))
