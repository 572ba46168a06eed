-- `report`: the whole text is composed first, and copied where there is room. No axioms.
use Rattle.report.proofs.TextLaws.{whole_text}
use Rattle.report.proofs.ReportLaws.{file_text_fits}
use Rattle.report.proofs.report.Goals as goal

pub returns : goal.returns
returns c =
    let whole = whole_text _ _ c.new-whole.ensures c.put_file.ensures in
    let copied = rw whole at c.copy_to.ensures in
    record { value = copied.value; text_after = copied.text_after; file_len_bound = file_text_fits _ }
