-- `column_sum`: before turn i the sum of the first i lines is there. No axioms.
use Rattle.std.proofs.Common.{ℕ, ◌+◌, ◌*◌, get_or, refl, arith}
use Rattle.limits.specs.SheetSize.{line_size}
use Rattle.numbers.specs.Sum.{sum}
use Rattle.numbers.proofs.SumLaws.{sum_next, sum_at_most}
use Rattle.report.proofs.lines.column_sum.Goals as goal

pub loop-i-init : goal.loop-i-init
unfolding sum
loop-i-init c = refl

pub overflow_add-sum-in-loop-i : goal.overflow_add-sum-in-loop-i
overflow_add-sum-in-loop-i c =
    let held = c.requires.3 in
    let column : ℕ → ℕ = λ i. get_or c.args.results.now (line_size * i + c.args.column) 0 in
    let so_far = sum_at_most column 125000000000000 c.loop-i.i (λ i below. held i (omega arith)) in
    omega (arith, c.loop-i.invariant, so_far, held c.loop-i.i (omega arith))

pub loop-i-preserved : goal.loop-i-preserved
loop-i-preserved c =
    omega (arith, c.loop-i.invariant, sum_next (λ i. get_or c.args.results.now (line_size * i + c.args.column) 0) c.loop-i.i)
