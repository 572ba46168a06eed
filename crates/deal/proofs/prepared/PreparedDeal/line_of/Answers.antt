-- `line_of`: what is held is at most the tranche's amount and no weight is above 125,000, so the products fit. No axioms.
use mathlib.Core.Path.{ap}
use Prim.Native.Nat.{◌≤◌}
use native.Mathlib.Omega.{arith}
use Rattle.deal.specs.Lines.{tranche, line}
use Rattle.weights.specs.declared.Tranche.{Tranche}
use Rattle.judgement.proofs.SheetLimits.{good_tranche}
use Rattle.weights.proofs.WeightLaws.{weight_at_most, weight_within}
use Rattle.deal.proofs.prepared.PreparedDeal.line_of.Goals.{After-weight-w}
use Rattle.deal.proofs.prepared.PreparedDeal.line_of.Goals as goal

-- what is held is at most the tranche's amount, and neither end of the weight is above 125,000
within :
    (c : After-weight-w) →
    (c.tranche_of-t.result.held ≤ 10000000000000) × (c.weight-w.result.low ≤ 125000) × (c.weight-w.result.high ≤ 125000)
unfolding tranche
within c =
    let limits = good_tranche c.args.self.now.sheet.now.words.now c.args.i c.args.self.now.sheet.now.laid_out.good c.requires in
    let t = c.tranche_of-t.result in
    let ends = weight_within t c.args.self.now.terms.now in
    let most = weight_at_most t c.args.self.now.terms.now in (
      omega (arith, ap (λ (t : Tranche). t.held) c.tranche_of-t.ensures, limits),
      rw c.weight-w.ensures.value (omega (arith, ends.ordered, most)),
      rw c.weight-w.ensures.value most,
    )

pub risk_weighted_amount-requires : goal.risk_weighted_amount-requires
risk_weighted_amount-requires c = omega (arith, within (goal.at.risk_weighted_amount-requires c).After-weight-w)

pub capital-requires : goal.capital-requires
capital-requires c = omega (arith, within (goal.at.capital-requires c).After-weight-w)

pub returns : goal.returns
unfolding line
returns c =
    simp (
      c.capital.ensures,
      c.risk_weighted_amount.ensures,
      c.number.ensures,
      c.approach.ensures,
      c.weight-w.ensures.value,
      c.tranche_of-t.ensures,
      c.args.self.now.its_terms,
    )
