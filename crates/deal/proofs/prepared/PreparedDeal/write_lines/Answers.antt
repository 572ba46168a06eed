-- `write_lines`: after i turns the results are the first i lines and the rest of what was there. No axioms.
use mathlib.Core.Path.{◌≡◌, ◌∙◌, ap}
use Prim.Native.Nat.{◌<◌}
use native.Mathlib.Omega.{arith}
use lib.ListN.{length}
use Rattle.judgement.specs.DealSheet.{tranche_count}
use Rattle.deal.proofs.WrittenLines.{lines_none, length_so_far, line_put}
use Rattle.deal.proofs.FewTranches.{few_tranches}
use Rattle.deal.proofs.prepared.PreparedDeal.write_lines.Goals.{In-loop-i}
use Rattle.deal.proofs.prepared.PreparedDeal.write_lines.Goals as goal

-- the turn's tranche is one of the sheet's
row : (c : In-loop-i) → c.loop-i.i < tranche_count c.args.self.now.sheet.now.words.now
row c = omega (arith, few_tranches c.args.self.now.sheet.now)

pub loop-i-init : goal.loop-i-init
loop-i-init c = lines_none _ _

pub line_of-line-requires : goal.line_of-line-requires
line_of-line-requires c =
    row (goal.at.line_of-line-requires c).In-loop-i

pub overflow_mul-i : goal.overflow_mul-i
overflow_mul-i c = omega (arith, row (goal.at.overflow_mul-i c).In-loop-i)

pub put_line-requires : goal.put_line-requires
put_line-requires c =
    let turn = row (goal.at.put_line-requires c).In-loop-i in
    let shown = ap length c.loop-i.invariant ∙ length_so_far c.args.self.now.sheet.now.words.now c.args.results.now c.loop-i.i (omega arith) in
    omega (arith, shown)

pub loop-i-preserved : goal.loop-i-preserved
loop-i-preserved c =
    let turn = row (goal.at.loop-i-preserved c).In-loop-i in
    line_put c.args.self.now.sheet.now.words.now c.args.results.now c.loop-i.i (omega arith) c.loop-i.invariant c.line_of-line.ensures c.put_line.ensures

pub returns : goal.returns
returns c =
    let all : c.loop-i.i ≡ tranche_count c.args.self.now.sheet.now.words.now = omega (arith, few_tranches c.args.self.now.sheet.now) in
    rw (← all) c.loop-i.invariant
