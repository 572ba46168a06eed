-- `put_file`: the file is weighed, and the text is that of the answer. No axioms.
use Rattle.std.proofs.Common.{refl, ap, ◌∙◌}
use Rattle.report.specs.BegunText.{behind}
use Rattle.report.proofs.ReportLaws.{weighed_lines, weighed_file, refused_file}
use Rattle.report.proofs.put_file.Goals as goal

pub put_deal-requires : goal.put_deal-requires
put_deal-requires c =
    let weighed = c.in-Ok.ensures in
    let fits = weighed_lines _ _ _ weighed.result_value refl weighed.results_after in
    (fits.0, fits.1, c.requires, fits.2)

pub returns-in-Ok : goal.returns-in-Ok
returns-in-Ok c =
    let weighed = c.in-Ok.ensures in
    c.put_deal.ensures ∙ ap (behind c.args.text.now) (weighed_file _ _ _ weighed.result_value refl weighed.results_after)

pub returns-in-Err : goal.returns-in-Err
returns-in-Err c = c.push_refusal.ensures ∙ ap (behind c.args.text.now) (refused_file _ _ c.in-Err.ensures.result_value)
