-- `Row::risk_weight`: the weight's word is read at its place, and its weight in hundredths is at most 125,000. No
-- axioms.
use mathlib.Core.Path.{◌≡◌}
use Prim.Native.Nat.{◌*◌}
use native.Mathlib.Omega.{arith}
use Rattle.judgement.specs.DealSheet.{risk_weight}
use Rattle.judgement.proofs.LayoutLaws.{hundredths_is}
use Rattle.judgement.proofs.SheetLimits.{risk_weight_most}
use Rattle.pool.proofs.pool_rows.Row.risk_weight.Goals.{After-word}
use Rattle.pool.proofs.pool_rows.Row.risk_weight.Goals as goal

-- the unit times the word
product_is : (c : After-word) → c.weight_unit.result * c.word.result ≡ risk_weight c.args.self.sheet.now.words.now c.args.self.number
product_is c =
    let sheet = c.args.self.sheet.now in
    simp (c.weight_unit.ensures, c.word.ensures, hundredths_is sheet.words.now sheet.layout sheet.laid_out)

pub overflow_mul-result : goal.overflow_mul-result
overflow_mul-result c =
    let row = c.args.self in
    omega (arith, product_is (goal.at.overflow_mul-result c).After-word, risk_weight_most row.sheet.now.words.now row.number row.sheet.now.laid_out.good row.there)

pub returns : goal.returns
returns c = product_is (goal.at.returns c).After-word
