-- `put_file`: a bad length is refused; else the text is that of the words that were loaded. No axioms.
use Rattle.std.proofs.Common.{◌/◌, sym, ap, ◌∙◌, length, take}
use Rattle.files.proofs.FileLaws.{load_takes}
use Rattle.report.specs.BegunText.{behind}
use Rattle.report.proofs.PortfolioLaws.{bad_length_totals, loaded_totals}
use Rattle.report.proofs.totals.put_file.Goals as goal

pub returns-then-not-load : goal.returns-then-not-load
returns-then-not-load c =
    c.push_refusal.ensures ∙ ap (behind c.args.text.now) (bad_length_totals c.args.file.now (sym c.if-not-load.ensures.value))

pub returns : goal.returns
returns c =
    let file = c.args.file.now in
    let good = sym c.if-not-load.ensures.value in
    let words = ap (take (length file / 8)) c.load.ensures.words_after ∙ load_takes file _ good in
    c.put_sheet.ensures ∙ ap (behind c.args.text.now) (loaded_totals file _ good words)
