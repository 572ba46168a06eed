-- `convert`: where the words are good the rest is judged and written, and a refusal by the words is handed on with the output as it was. No axioms.
use mathlib.Core.Path.{◌∙◌}
use Rattle.std.proofs.lemmas.Result.{err_from_is_err_and}
use Rattle.judgement.proofs.WordsLaw.{good_numbers, bad_numbers}
use Rattle.conversion.proofs.ConversionSteps.{judged_numbers, judged_output, words_refused, words_leave}
use Rattle.conversion.proofs.convert.Goals as goal

pub returns-in_err-judged : goal.returns-in_err-judged
returns-in_err-judged c =
    let s = c.args.sheet.now in
    let refused = bad_numbers s _ c.in_err-judged.ensures.result_value in
    let exit = err_from_is_err_and c.from_residual.result c.from_residual.ensures.1 in
    record { result_value = rw (exit.1, exit.2) (words_refused s _ _ refused); output_after = words_leave s _ _ refused }

pub returns : goal.returns
returns c =
    let s = c.args.sheet.now in
    let same = c.in_ok-judged.ensures.words in
    let sound = (good_numbers s _ c.in_ok-judged.ensures.result_value).0 in
    let converted = c.convert_judged.ensures in
    record {
      result_value = rw same at converted.result_value ∙ judged_numbers s _ sound;
      output_after = rw same at converted.output_after ∙ judged_output s _ sound;
    }
