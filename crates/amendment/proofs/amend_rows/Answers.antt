-- `amend_rows`: a refused amendment is handed back with the sums as they were; of a good one the row is there. No axioms.
use Prim.Native.Nat.{◌+◌}
use native.Mathlib.Omega.{arith}
use mathlib.Core.Path.{refl}
use Rattle.std.proofs.lemmas.Result.{err_from_is_err_and}
use Rattle.judgement.specs.Verdicts.{Sound}
use Rattle.amendment.proofs.AmendSteps.{JudgedHere, few_facts, judged_here, refused_here, five, number, place, replaceable, replaced_here}
use Rattle.amendment.proofs.amend_rows.Goals.{In_ok-judge}
use Rattle.amendment.proofs.amend_rows.Goals as goal

-- what was read and judged good
good : (c : In_ok-judge) → JudgedHere c.args.sheet.now c.args.amendment.now c.args.sums (1 + c.word_at-pool.result) c.in_hundredths-hundredths.result Sound
good c = judged_here c.requires c.word_at-pool.ensures c.word_at-rows.ensures c.word_at-resecuritised.ensures c.in_hundredths-hundredths.ensures c.in_ok-judge.ensures

pub overflow_add-pool : goal.overflow_add-pool
overflow_add-pool c = omega (arith, c.word_at-pool.ensures, few_facts c.requires)

pub returns-in_err-judge : goal.returns-in_err-judge
returns-in_err-judge c =
    let exit = err_from_is_err_and c.from_residual.result c.from_residual.ensures.1 in
    let here = judged_here c.requires c.word_at-pool.ensures c.word_at-rows.ensures c.word_at-resecuritised.ensures c.in_hundredths-hundredths.ensures c.in_err-judge.ensures in
    refused_here here (rw (exit.1, exit.2) refl) refl

pub overflow_add-at : goal.overflow_add-at
overflow_add-at c = omega (arith, place (good (goal.at.overflow_add-at c).In_ok-judge) refl)

pub bounds-amendment-0 : goal.bounds-amendment-0
bounds-amendment-0 c = omega (arith, five (good (goal.at.bounds-amendment-0 c).In_ok-judge) refl)

pub overflow_sub-at : goal.overflow_sub-at
overflow_sub-at c = omega (arith, number (good (goal.at.overflow_sub-at c).In_ok-judge) refl)

pub overflow_mul-at : goal.overflow_mul-at
overflow_mul-at c = omega (arith, number (good (goal.at.overflow_mul-at c).In_ok-judge) refl)

pub overflow_add-at-2 : goal.overflow_add-at-2
overflow_add-at-2 c = omega (arith, place (good (goal.at.overflow_add-at-2 c).In_ok-judge) refl)

pub replace_row-requires : goal.replace_row-requires
replace_row-requires c = replaceable (good (goal.at.replace_row-requires c).In_ok-judge) refl

pub returns : goal.returns
returns c =
    let replaced = c.replace_row.ensures in
    replaced_here (good (goal.at.returns c).In_ok-judge) refl replaced.0 replaced.1
