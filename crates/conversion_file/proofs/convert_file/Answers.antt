-- `convert_file`: a bad length is refused; else the words that were loaded are converted. No axioms.
use mathlib.Core.Path.{sym, ap, ◌∙◌}
use Prim.Native.Nat.{◌/◌}
use lib.ListN.{length, take}
use Rattle.files.proofs.FileLaws.{load_takes}
use Rattle.conversion_file.proofs.FileConversionLaws.{bad_length_refused, words_converted}
use Rattle.conversion_file.proofs.convert_file.Goals as goal

pub returns-then-not-load : goal.returns-then-not-load
returns-then-not-load c =
    let x = c.args in
    let both = bad_length_refused x.file.now x.bytes.now (sym c.if-not-load.ensures.value) in
    record { result_value = both.0; bytes_after = both.1 }

pub returns : goal.returns
returns c =
    let x = c.args in
    let good = sym c.if-not-load.ensures.value in
    let words = ap (take (length x.file.now / 8)) c.load.ensures.words_after ∙ load_takes x.file.now _ good in
    let both = words_converted x.file.now x.bytes.now _ good words (c.convert_words.ensures.result_value, c.convert_words.ensures.bytes_after) in
    record { result_value = both.0; bytes_after = both.1 }
