-- `judge_weights`: every weight passed is a whole percent; the first that is none decides. No axioms.
use mathlib.Core.Bool.{true}
use mathlib.Core.List.{List}
use mathlib.Core.Path.{◌≡◌, refl, sym, ◌∙◌}
use Prim.Native.Nat.{ℕ, ◌+◌, ◌*◌, ◌%◌, ◌≤◌, ◌<◌}
use native.Mathlib.Omega.{arith}
use lib.ListN.{length}
use borrow.Author.Tests.{ne_eqb}
use Rattle.limits.specs.SheetSize.{place_limit}
use Rattle.judgement.specs.DealSheet.{in_hundredths, rows, row_at, weight_at, weight_word}
use Rattle.judgement.specs.Refusals.{refused, first_of}
use Rattle.judgement.specs.Verdicts.{Sound}
use Rattle.judgement.proofs.FirstFault.{first_of_next, first_of_stays}
use Rattle.judgement.proofs.LayoutLaws.{hundredths_is, rows_is, row_place}
use Rattle.conversion.specs.Conversion.{percent_verdict}
use Rattle.conversion.proofs.judge_weights.Goals.{Else-not-sheet, In-loop-i}
use Rattle.conversion.proofs.judge_weights.Goals as goal

next_not_whole :
    (s : List ℕ) (i place : ℕ) → (weight_word s i % 100 ≡ 0 → ⊥) → first_of (λ i. percent_verdict s i) i ≡ Sound → i < rows s → place ≡ weight_at s i →
    refused 19 place ≡ first_of (λ i. percent_verdict s i) (rows s)
next_not_whole s i place part before row place_is =
    sym
    (first_of_stays (λ i. percent_verdict s i) (i + 1) (rows s) (record { number = 19; place = place }) (omega arith)
    (first_of_next (λ i. percent_verdict s i) i before ∙ rw (ne_eqb (weight_word s i % 100) 0 part, place_is)))

-- past the first test the sheet is in hundredths
fine : (c : Else-not-sheet) → in_hundredths c.args.sheet.now.words.now ≡ true
fine c = sym (hundredths_is _ _ c.args.sheet.now.laid_out) ∙ c.if-not-sheet.false

-- the turn's row is one of the sheet's
row : (c : In-loop-i) → c.loop-i.i < rows c.args.sheet.now.words.now
row c = omega (arith, rows_is _ _ c.args.sheet.now.laid_out)

-- the place of its weight, as a low number
place :
    (c : In-loop-i) →
    let s = c.args.sheet.now.words.now in
    (c.args.sheet.now.layout.first_row + 4 * c.loop-i.i + 2 ≡ weight_at s c.loop-i.i) ×
    ((weight_at s c.loop-i.i < length s) × (row_at s c.loop-i.i ≤ place_limit))
place c =
    row_place _ _ c.args.sheet.now.laid_out c.loop-i.i 2 (row c) (omega arith)

pub returns-then-not-sheet : goal.returns-then-not-sheet
returns-then-not-sheet c = simp (sym (hundredths_is _ _ c.args.sheet.now.laid_out) ∙ c.if-not-sheet.true)

pub loop-i-init : goal.loop-i-init
unfolding first_of
loop-i-init c = refl

pub overflow_mul-at : goal.overflow_mul-at
overflow_mul-at c = omega (arith, place (goal.at.overflow_mul-at c).In-loop-i)

pub overflow_add-at : goal.overflow_add-at
overflow_add-at c = omega (arith, place (goal.at.overflow_add-at c).In-loop-i)

pub overflow_add-at-in-loop-i : goal.overflow_add-at-in-loop-i
overflow_add-at-in-loop-i c = omega (arith, place (goal.at.overflow_add-at-in-loop-i c).In-loop-i)

pub offset_bounds-sheet-at : goal.offset_bounds-sheet-at
offset_bounds-sheet-at c = omega (arith, place (goal.at.offset_bounds-sheet-at c).In-loop-i)

pub bounds-sheet-at : goal.bounds-sheet-at
bounds-sheet-at c = omega (arith, place (goal.at.bounds-sheet-at c).In-loop-i)

pub returns-then-sheet-at-ne0 : goal.returns-then-sheet-at-ne0
returns-then-sheet-at-ne0 c =
    let s = c.args.sheet.now.words.now in
    let turn = (goal.at.returns-then-sheet-at-ne0 c).In-loop-i in
    let at = (place turn).0 in
    rw (fine (goal.at.returns-then-sheet-at-ne0 c).Else-not-sheet)
    (next_not_whole s c.loop-i.i _ (λ whole. c.if-sheet-at-ne0.true (rw at whole)) c.loop-i.invariant (row turn) at)

pub loop-i-preserved : goal.loop-i-preserved
loop-i-preserved c =
    let s = c.args.sheet.now.words.now in
    let whole = rw (place (goal.at.loop-i-preserved c).In-loop-i).0 at c.if-sheet-at-ne0.false in
    first_of_next (λ i. percent_verdict s i) c.loop-i.i c.loop-i.invariant ∙ rw whole

pub returns : goal.returns
returns c =
    let s = c.args.sheet.now.words.now in
    let all : c.loop-i.i ≡ rows s = omega (arith, rows_is _ _ c.args.sheet.now.laid_out) in
    rw (fine (goal.at.returns c).Else-not-sheet) (sym (rw all at c.loop-i.invariant))
