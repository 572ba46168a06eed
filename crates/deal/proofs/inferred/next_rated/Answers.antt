-- `next_rated`: after each turn the table is filled from the turn's row on, and `first` is what that row has. No
-- axioms.
use mathlib.Core.Path.{◌≡◌, ◌∙◌}
use Prim.Native.Nat.{◌+◌, ◌-◌, ◌<◌}
use native.Mathlib.Omega.{arith}
use Rattle.judgement.specs.DealSheet.{tranche_count}
use Rattle.deal.specs.InferredRatings.{rated_row}
use Rattle.deal.specs.NextRated.{FirstRatedFrom}
use Rattle.deal.proofs.FewTranches.{few_tranches}
use Rattle.deal.proofs.NextRatedLaws.{rated_past_last, rated_here, rated_later, last_filled, next_filled}
use Rattle.deal.proofs.inferred.next_rated.Goals.{Joined-any_present, then-any_present, else-any_present}
use Rattle.deal.proofs.inferred.next_rated.Goals as goal

-- the first rated row from the turn's row on, by what `any_present` told of that row
first_from :
    (c : Joined-any_present) → FirstRatedFrom c.args.sheet.now.words.now (c.loop-j.j - 1) c.if-any_present.first
first_from c =
    let s = c.args.sheet.now.words.now in
    let turn : c.loop-j.j - 1 < tranche_count s = omega (arith, few_tranches c.args.sheet.now) in
    let told : rated_row s (c.loop-j.j - 1) ≡ c.any_present.result = simp (c.any_present.ensures, c.ratings_at.ensures) in
    elim c.if-any_present.branch [
      | then-any_present w ↦
          rw w.first-is (rated_here s (c.loop-j.j - 1) turn (told ∙ w.if-any_present.true))
      | else-any_present w ↦
          let back : c.loop-j.j - 1 + 1 ≡ c.loop-j.j = omega arith in
          rw w.first-is (rated_later s (c.loop-j.j - 1) c.loop-j.first (told ∙ w.if-any_present.false) (rw back c.loop-j.invariant.1))
    ]

pub overflow_cast-next : goal.overflow_cast-next
overflow_cast-next c = omega (arith, few_tranches c.args.sheet.now)

pub bounds-next-first : goal.bounds-next-first
bounds-next-first c = omega (arith, few_tranches c.args.sheet.now)

pub loop-j-init : goal.loop-j-init
loop-j-init c =
    let few = few_tranches c.args.sheet.now in
    rw few.0
    (last_filled c.args.sheet.now.words.now c.args.next.now c.requires few.1, rated_past_last c.args.sheet.now.words.now)

pub overflow_cast-next-in-loop-j : goal.overflow_cast-next-in-loop-j
overflow_cast-next-in-loop-j c = omega (arith, (first_from (goal.at.overflow_cast-next-in-loop-j c).Joined-any_present).at_most, few_tranches c.args.sheet.now)

pub bounds-next-j : goal.bounds-next-j
bounds-next-j c = omega (arith, few_tranches c.args.sheet.now)

pub loop-j-preserved : goal.loop-j-preserved
loop-j-preserved c =
    let first = first_from (goal.at.loop-j-preserved c).Joined-any_present in
    let few = few_tranches c.args.sheet.now in (
      next_filled c.args.sheet.now.words.now c.loop-j.next c.loop-j.j (c.loop-j.j - 1) c.if-any_present.first (omega arith) (omega arith) few.1 c.loop-j.invariant.0 first,
      first,
    )
