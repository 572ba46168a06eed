-- `judge_thickness`: as long as the loop runs, none of the tranches passed is too thin; the first that is decides. No
-- axioms.
use mathlib.Core.Bool.{true, false}
use mathlib.Core.List.{List}
use mathlib.Core.Path.{◌≡◌, refl, sym, ◌∙◌}
use Prim.Native.Nat.{ℕ, ◌+◌, ◌*◌, ◌≤◌, ◌<◌}
use native.Mathlib.Omega.{arith}
use Rattle.limits.specs.SheetSize.{place_limit}
use Rattle.judgement.specs.DealSheet.{tranche_count, tranche_at}
use Rattle.weights.specs.ApproachFloorCap.{thin}
use Rattle.deal.specs.Lines.{terms, tranche}
use Rattle.judgement.specs.Refusals.{refused, first_of}
use Rattle.deal.specs.Refusals.{thin_verdict}
use Rattle.judgement.specs.Verdicts.{Sound}
use Rattle.judgement.proofs.FirstFault.{first_of_next, first_of_stays}
use Rattle.judgement.proofs.LayoutLaws.{tranche_place}
use Rattle.deal.proofs.FewTranches.{few_tranches}
use Rattle.deal.proofs.prepared.PreparedDeal.judge_thickness.Goals.{After-is_thin, In-loop-i}
use Rattle.deal.proofs.prepared.PreparedDeal.judge_thickness.Goals as goal

next_sound :
    (s : List ℕ) (i : ℕ) → thin (tranche s i) (terms s) ≡ false → first_of (λ i. thin_verdict s i) i ≡ Sound →
    first_of (λ i. thin_verdict s i) (i + 1) ≡ Sound
next_sound s i thick before = first_of_next (λ i. thin_verdict s i) i before ∙ rw thick

next_faulty :
    (s : List ℕ) (i place : ℕ) → thin (tranche s i) (terms s) ≡ true → first_of (λ i. thin_verdict s i) i ≡ Sound → i < tranche_count s →
    place ≡ tranche_at s i → refused 13 place ≡ first_of (λ i. thin_verdict s i) (tranche_count s)
next_faulty s i place found before row place_is =
    sym
    (first_of_stays (λ i. thin_verdict s i) (i + 1) (tranche_count s) (record { number = 13; place = place }) (omega arith)
    (first_of_next (λ i. thin_verdict s i) i before ∙ rw (found, place_is)))

-- ---- the next tranche, where none before it is too thin
-- the turn's tranche is one of the sheet's
row : (c : In-loop-i) → c.loop-i.i < tranche_count c.args.self.now.sheet.now.words.now
row c = omega (arith, few_tranches c.args.self.now.sheet.now)

-- what `is_thin` told of the tranche
told : (c : After-is_thin) →
    let s = c.args.self.now.sheet.now.words.now in
    thin (tranche s c.loop-i.i) (terms s) ≡ c.is_thin.result
told c =
    simp (← c.args.self.now.its_terms, ← c.tranche_of.ensures, c.is_thin.ensures)

-- the tranche's place, as a low number
place :
    (c : In-loop-i) → (c.args.self.now.sheet.now.layout.first_tranche + 7 * c.loop-i.i ≡ tranche_at c.args.self.now.sheet.now.words.now c.loop-i.i) ×
    (tranche_at c.args.self.now.sheet.now.words.now c.loop-i.i ≤ place_limit)
place c =
    let at = tranche_place c.args.self.now.sheet.now.words.now c.args.self.now.sheet.now.layout c.args.self.now.sheet.now.laid_out c.loop-i.i 0 (row c) (omega arith) in
    (omega (arith, at.0), at.1.1)

pub loop-i-init : goal.loop-i-init
unfolding first_of
loop-i-init c = refl

pub tranche_of-requires : goal.tranche_of-requires
tranche_of-requires c =
    row (goal.at.tranche_of-requires c).In-loop-i

pub overflow_mul-result : goal.overflow_mul-result
overflow_mul-result c = omega (arith, place (goal.at.overflow_mul-result c).In-loop-i)

pub overflow_add-result : goal.overflow_add-result
overflow_add-result c = omega (arith, place (goal.at.overflow_add-result c).In-loop-i)

pub returns-then-is_thin : goal.returns-then-is_thin
returns-then-is_thin c =
    next_faulty c.args.self.now.sheet.now.words.now c.loop-i.i _
    (told (goal.at.returns-then-is_thin c).After-is_thin ∙ c.if-is_thin.true)
    c.loop-i.invariant
    (row (goal.at.returns-then-is_thin c).In-loop-i)
    (place (goal.at.returns-then-is_thin c).In-loop-i).0

pub loop-i-preserved : goal.loop-i-preserved
loop-i-preserved c =
    next_sound c.args.self.now.sheet.now.words.now c.loop-i.i (told (goal.at.loop-i-preserved c).After-is_thin ∙ c.if-is_thin.false) c.loop-i.invariant

pub returns : goal.returns
returns c =
    let all : c.loop-i.i ≡ tranche_count c.args.self.now.sheet.now.words.now = omega (arith, few_tranches c.args.self.now.sheet.now) in
    sym (rw all at c.loop-i.invariant)
