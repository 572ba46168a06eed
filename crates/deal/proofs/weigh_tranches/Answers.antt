-- `weigh_tranches`: each refusal is the sheet's verdict and leaves the results; where there is none, the lines are
-- written. No axioms.
use mathlib.Core.Path.{refl, ap}
use native.Mathlib.Omega.{arith}
use Rattle.faults.specs.declared.Reason.TheVariants.{NoRoom}
use Rattle.judgement.proofs.JudgeSteps.{handed_on}
use Rattle.weights.specs.declared.Terms.{Terms}
use Rattle.deal.proofs.FewTranches.{few_tranches}
use Rattle.deal.proofs.WeighSteps.{refused_for_room, decided_by_thickness, refused_answer, weighed_answer}
use Rattle.deal.proofs.weigh_tranches.Goals as goal

pub overflow_mul-count : goal.overflow_mul-count
overflow_mul-count c = omega (arith, few_tranches c.args.sheet.now)

pub returns-then-results-count : goal.returns-then-results-count
returns-then-results-count c =
    let rest =
    refused_answer _ _ {r = record { reason = NoRoom; place = 0 }} refl (refused_for_room _ _ c.requires.0 (omega (arith, few_tranches c.args.sheet.now))) in
    record { result_value = rest.0; results_after = rest.1.0; keeps_demand_three = rest.1.1.0; keeps_seventh_word = rest.1.1.1 }

pub returns-in_err-judge_thickness : goal.returns-in_err-judge_thickness
returns-in_err-judge_thickness c =
    let rest =
    refused_answer _ _ (handed_on c.from_residual.ensures.1)
    (decided_by_thickness _ _ c.requires.0 (omega (arith, few_tranches c.args.sheet.now)) c.in_err-judge_thickness.ensures) in
    record { result_value = rest.0; results_after = rest.1.0; keeps_demand_three = rest.1.1.0; keeps_seventh_word = rest.1.1.1 }

pub write_lines-requires : goal.write_lines-requires
write_lines-requires c = omega (arith, few_tranches c.args.sheet.now)

pub returns : goal.returns
returns c =
    let rest =
    weighed_answer _ _
    (decided_by_thickness _ _ c.requires.0 (omega (arith, few_tranches c.args.sheet.now)) c.in_ok-judge_thickness.ensures)
    (few_tranches c.args.sheet.now).0
    (ap (λ (d : Terms). d.charge) c.requires.1)
    c.write_lines.ensures in
    record { result_value = rest.0; results_after = rest.1.0; keeps_demand_three = rest.1.1.0; keeps_seventh_word = rest.1.1.1 }
