-- A token that is not shown whole has as many bytes as are shown, by a law, since counting them one by one would take
-- too long.
use Rattle.std.proofs.Common.{sym, arith}
use Rattle.std.proofs.Math.Seq.{length-take-le}
use Rattle.sheet_words.proofs.show_token.Goals as goal

pub slice_bounds-write_all-end : goal.slice_bounds-write_all-end
slice_bounds-write_all-end g c = sym (length-take-le 40 c.args.token.now (omega arith))
