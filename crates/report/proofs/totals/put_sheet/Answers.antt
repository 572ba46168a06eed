-- `put_sheet`: the text of the pool's sums, or of the refusal. No axioms.
use Rattle.std.proofs.Common.{ap, ◌∙◌}
use Rattle.pool.proofs.SummedPoolLaw.{opened_means, refused_pool_means, open_read}
use Rattle.report.specs.BegunText.{behind}
use Rattle.report.proofs.PortfolioLaws.{sound_text, faulty_text}
use Rattle.report.proofs.totals.put_sheet.Goals as goal

pub put_totals-requires : goal.put_totals-requires
put_totals-requires c = (open_read _ _ _ (opened_means _ _ c.in-Ok.ensures) c.read_layout.ensures, c.requires)

pub returns-in-Ok : goal.returns-in-Ok
returns-in-Ok c = c.put_totals.ensures ∙ ap (behind c.args.text.now) (sound_text _ (opened_means _ _ c.in-Ok.ensures).sound)

pub returns-in-Err : goal.returns-in-Err
returns-in-Err c =
    c.push_refusal.ensures ∙ ap (behind c.args.text.now) (faulty_text _ _ (refused_pool_means _ _ c.in-Err.ensures))
