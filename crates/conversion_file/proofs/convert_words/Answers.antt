-- `convert_words`: the rewritten words stand at the start of those lent for them, and are stored; a refusal is handed on. No axioms.
use mathlib.Core.Path.{refl, sym}
use lib.Seq.{length-take-le}
use Rattle.std.proofs.lemmas.Result.{err_from_is_err_and}
use Rattle.conversion_file.proofs.FileConversionLaws.{words_fit, words_at_start, stored_numbers, stored_bytes, refused_numbers, refused_bytes}
use Rattle.conversion_file.proofs.convert_words.Goals as goal

pub returns-in_err-count : goal.returns-in_err-count
returns-in_err-count c =
    let s = c.args.sheet.now in
    let refused = c.in_err-count.ensures.result_value in
    let exit = err_from_is_err_and c.from_residual.result c.from_residual.ensures.1 in
    record {
      result_value = rw (exit.1, exit.2) (refused_numbers s _ refused _);
      bytes_after = refused_bytes s _ refused c.args.bytes.now;
    }

pub slice_bounds-words-end : goal.slice_bounds-words-end
slice_bounds-words-end c =
    words_fit _ _ c.in_ok-count.ensures.result_value _ refl c.in_ok-count.ensures.output_after

pub slice_bounds-store_words-end : goal.slice_bounds-store_words-end
slice_bounds-store_words-end c =
    sym (length-take-le _ _ (words_fit _ _ c.in_ok-count.ensures.result_value _ refl c.in_ok-count.ensures.output_after))

pub returns : goal.returns
returns c =
    let s = c.args.sheet.now in
    let counted = c.in_ok-count.ensures.result_value in
    let at_start = words_at_start s _ counted _ refl c.in_ok-count.ensures.output_after in
    record {
      result_value = stored_numbers s _ counted c.args.bytes.now (rw at_start at c.store_words.ensures.value);
      bytes_after = stored_bytes s _ counted c.args.bytes.now (rw at_start at c.store_words.ensures.bytes_after);
    }
