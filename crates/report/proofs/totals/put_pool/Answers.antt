-- `put_pool`: the label, and the line of the seven sums behind it. No axioms.
use Rattle.pool.specs.BlockSums.{sum_words}
use Rattle.report.specs.ReportText.{ascii, words_line}
use Rattle.report.proofs.TextLaws.{put_behind}
use Rattle.report.proofs.totals.put_pool.Goals as goal

pub returns : goal.returns
unfolding ascii
returns c =
    put_behind c.args.text.now (ascii "total ") (words_line (sum_words c.args.q)) c.push_bytes.ensures c.put_sums.ensures
