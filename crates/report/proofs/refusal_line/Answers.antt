-- `refusal_line`: the whole line is composed first, and copied where there is room. No axioms.
use Rattle.report.specs.ReportText.{ascii, labelled, refusal_line}
use Rattle.report.proofs.TextLaws.{whole_text, refusal_line_fits}
use Rattle.report.proofs.refusal_line.Goals as goal

pub returns : goal.returns
unfolding ascii labelled
returns c =
    let x = c.args in
    let whole = whole_text _ (refusal_line x.number x.place) c.new-whole.ensures c.push_labelled.ensures in
    let copied = rw whole at c.copy_to.ensures in
    record { value = copied.value; text_after = copied.text_after; place_len_bound = refusal_line_fits x.number x.place }
