-- `push_decimal`: the digits before the last are written when the last is written behind them. No axioms.
use Rattle.std.proofs.Common.{[], ◌∷◌, ◌≡◌, ◌+◌, ◌/◌, ◌%◌, ◌≤◌, length, ap, ◌∙◌, arith, length-append}
use Rattle.files.specs.Decimal.{decimal}
use Rattle.files.proofs.DecimalLaws.{leading, leading_none, leading_some, decimal_last, decimal_more}
use Rattle.report.specs.BegunText.{behind}
use Rattle.report.proofs.TextLaws.{put_behind, nothing_behind, same_room}
use Rattle.report.proofs.text.Text.+push_decimal.Goals.{Joined-n-ge10, then-n-ge10, else-n-ge10}
use Rattle.report.proofs.text.Text.+push_decimal.Goals as goal

pub push_decimal-requires : goal.push_decimal-requires
push_decimal-requires t c =
    let n = c.args.n in
    let l : 10 ≤ n = omega arith in
    omega (
      arith,
      ap length (decimal_more n l (omega arith)),
      length-append (decimal (n / 10)) ((48 + n % 10) ∷ []),
    )

-- before the last digit is written
so_far : (t : _) (c : Joined-n-ge10 t) → c.if-n-ge10.self ≡ behind c.args.self.now (leading c.args.n)
so_far t c =
    let n = c.args.n in
    elim c.if-n-ge10.branch [
      | then-n-ge10 w ↦ rw (leading_some n (omega arith)) (w.self-is ∙ w.push_decimal.ensures)
      | else-n-ge10 w ↦ rw (leading_none n (omega arith)) (w.self-is ∙ nothing_behind _)
    ]

pub push_byte-requires : goal.push_byte-requires
push_byte-requires t c =
    let n = c.args.n in
    let size = ap length (decimal_last n (omega arith)) ∙ length-append (leading n) ((48 + n % 10) ∷ []) in
    omega (arith, same_room (so_far t (goal.at.push_byte-requires t c).Joined-n-ge10), size)

pub returns : goal.returns
returns t c =
    let n = c.args.n in
    let before = so_far t (goal.at.returns t c).Joined-n-ge10 in
    rw (decimal_last n (omega arith)) (put_behind c.args.self.now (leading n) ((48 + n % 10) ∷ []) before c.push_byte.ensures)
