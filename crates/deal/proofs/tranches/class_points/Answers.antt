-- `class_points`: after j turns the table and the running sum are those of the first j tranches; 32 amounts of 10^13
-- fit 64 bits. No axioms.
use mathlib.Core.Path.{◌≡◌}
use Prim.Native.Nat.{◌≤◌, ◌<◌}
use native.Mathlib.Nat.{add-zero}
use native.Mathlib.Omega.{arith}
use Rattle.judgement.specs.DealSheet.{tranche_count, amount, class}
use Rattle.judgement.proofs.SheetLimits.{class_within, good_tranche}
use Rattle.pool.proofs.PoolLaws.{nominal_within}
use Rattle.deal.proofs.ClassPointsLaw.{filled_none, filled_put, filled_all, amount_to_most}
use Rattle.deal.proofs.FewTranches.{few_tranches}
use Rattle.deal.proofs.tranches.class_points.Goals.{After-tranche_word-class, After-tranche_word-sum, In-loop-j, Start}
use Rattle.deal.proofs.tranches.class_points.Goals as goal

-- the pool's nominal is at least 1 and at most 10^13
nominal_limits : (c : Start) → (0 < c.args.nominal) × (c.args.nominal ≤ 10000000000000)
nominal_limits c =
    let limits = nominal_within c.args.sheet.now.words.now c.args.sheet.now.laid_out.good in
    (omega (arith, c.requires.0, limits), omega (arith, c.requires.0, limits))

-- the turn's tranche is one of the sheet's
row : (c : In-loop-j) → c.loop-j.j < tranche_count c.args.sheet.now.words.now
row c = omega (arith, few_tranches c.args.sheet.now)

-- its amount is what was read, and its class, which is at most 32
own_amount : (c : After-tranche_word-sum) → c.tranche_word-sum.result ≡ amount c.args.sheet.now.words.now c.loop-j.j
own_amount c = simp (c.tranche_word-sum.ensures, add-zero)

own_class :
    (c : After-tranche_word-class) →
    (c.tranche_word-class.result ≡ class c.args.sheet.now.words.now c.loop-j.j) × (c.tranche_word-class.result ≤ 32)
own_class c =
    let sheet = c.args.sheet.now in
    let turn : c.loop-j.j < tranche_count sheet.words.now = omega (arith, few_tranches sheet) in
    (c.tranche_word-class.ensures, omega (arith, c.tranche_word-class.ensures, (class_within sheet.words.now c.loop-j.j sheet.laid_out.good turn).1, few_tranches sheet))

pub loop-j-init : goal.loop-j-init
loop-j-init c = filled_none _ _ _ c.requires.1 (nominal_limits (goal.at.loop-j-init c).Start).0

pub tranche_word-class-requires : goal.tranche_word-class-requires
tranche_word-class-requires c = (row (goal.at.tranche_word-class-requires c).In-loop-j, omega arith)

pub tranche_word-sum-requires : goal.tranche_word-sum-requires
tranche_word-sum-requires c = (row (goal.at.tranche_word-sum-requires c).In-loop-j, omega arith)

pub overflow_add-sum : goal.overflow_add-sum
overflow_add-sum c =
    let sheet = c.args.sheet.now in
    let turn = row (goal.at.overflow_add-sum c).In-loop-j in
    omega (
      arith,
      own_amount (goal.at.overflow_add-sum c).After-tranche_word-sum,
      c.loop-j.invariant.total_is,
      (good_tranche sheet.words.now c.loop-j.j sheet.laid_out.good turn).amount_at_most,
      few_tranches sheet,
      amount_to_most sheet.words.now sheet.laid_out.good c.loop-j.j (omega arith),
    )

pub point-requires : goal.point-requires
point-requires c = nominal_limits (goal.at.point-requires c).Start

pub overflow_add-points : goal.overflow_add-points
overflow_add-points c = omega (arith, own_class (goal.at.overflow_add-points c).After-tranche_word-class)

pub offset_bounds-points-class : goal.offset_bounds-points-class
offset_bounds-points-class c = omega (arith, own_class (goal.at.offset_bounds-points-class c).After-tranche_word-class)

pub bounds-points-class : goal.bounds-points-class
bounds-points-class c = omega (arith, own_class (goal.at.bounds-points-class c).After-tranche_word-class)

pub loop-j-preserved : goal.loop-j-preserved
loop-j-preserved c =
    let sheet = c.args.sheet.now in
    filled_put sheet.words.now sheet.laid_out.good c.args.nominal c.loop-j.points c.loop-j.sum c.loop-j.j c.loop-j.invariant
    (row (goal.at.loop-j-preserved c).In-loop-j) _ _ _
    (omega (arith, own_class (goal.at.loop-j-preserved c).After-tranche_word-class))
    (omega (arith, own_amount (goal.at.loop-j-preserved c).After-tranche_word-sum))
    c.point.ensures

pub returns : goal.returns
returns c =
    let all : c.loop-j.j ≡ tranche_count c.args.sheet.now.words.now = omega (arith, few_tranches c.args.sheet.now) in
    filled_all c.requires.0 (rw all at c.loop-j.invariant)
