-- `convert_judged`: the first of 19 and 14 refuses and leaves the output; where there is neither, all is written and counted. No axioms.
use mathlib.Core.Path.{sym, ◌∙◌}
use Prim.Native.Nat.{◌≤◌, ◌<◌}
use native.Mathlib.Omega.{arith}
use lib.ListN.{length}
use lib.Seq.{length-take-le}
use Rattle.std.proofs.lemmas.Result.{err_from_is_err_and}
use Rattle.judgement.proofs.SheetLimits.{facts_within, facts_counted, fact_there}
use Rattle.conversion.specs.RewrittenSheet.{rewritten}
use Rattle.conversion.proofs.RewrittenLaws.{rewritten_length_lem}
use Rattle.conversion.proofs.ConversionSteps.{weights_refused, weights_leave, room_refused, room_leaves, words_counted, words_left}
use Rattle.conversion.proofs.convert_judged.Goals as goal

pub returns-in_err-judge_weights : goal.returns-in_err-judge_weights
returns-in_err-judge_weights c =
    let s = c.args.sheet.now.words.now in
    let refused = sym c.in_err-judge_weights.ensures in
    let exit = err_from_is_err_and c.from_residual.result c.from_residual.ensures.1 in
    record { result_value = rw (exit.1, exit.2) (weights_refused s _ _ refused); output_after = weights_leave s _ _ refused }

pub bounds-sheet-0 : goal.bounds-sheet-0
bounds-sheet-0 c = fact_there _ 0 c.args.sheet.now.laid_out.good (omega arith)

pub overflow_sub-count : goal.overflow_sub-count
overflow_sub-count c = omega (arith, facts_within _ (facts_counted _ c.args.sheet.now.laid_out.good))

pub returns-then-output-count : goal.returns-then-output-count
returns-then-output-count c =
    let s = c.args.sheet.now.words.now in
    let whole = sym c.in_ok-judge_weights.ensures in
    let short : length c.args.output.now < length (rewritten s) = omega (arith, rewritten_length_lem s c.args.sheet.now.laid_out.good) in
    record { result_value = room_refused s whole _ short; output_after = room_leaves s whole _ short }

pub write_words-requires : goal.write_words-requires
write_words-requires c = length-take-le _ _ c.if-output-count.false ∙ sym (rewritten_length_lem _ c.args.sheet.now.laid_out.good)

pub returns : goal.returns
returns c =
    let s = c.args.sheet.now.words.now in
    let whole = sym c.in_ok-judge_weights.ensures in
    let size = rewritten_length_lem s c.args.sheet.now.laid_out.good in
    let enough : length (rewritten s) ≤ length c.args.output.now = omega (arith, size) in
    record {
      result_value = rw (← size) (words_counted s whole _ enough);
      output_after = rw (c.write_words.ensures, ← size) (words_left s whole _ enough);
    }
