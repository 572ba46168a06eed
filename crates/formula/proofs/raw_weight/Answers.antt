-- `raw_weight`: each return by the tests that led there, and the formula is called within its limits. No axioms.
use mathlib.Core.Bool.{true}
use mathlib.Core.Path.{◌≡◌, ◌∙◌, sym}
use native.Mathlib.Omega.{arith}
use borrow.Author.Tests.{le-leb, lt-leb, eq-eqb, ne_eqb}
use Rattle.numbers.proofs.Tests.{equal_keeps}
use Rattle.formula.specs.Formula.{IsRawWeight}
use Rattle.formula.specs.FixedPoint.{within_limits, raw_weight}
use Rattle.formula.proofs.RawWeightLaw.{raw_weight_is}
use Rattle.formula.proofs.raw_weight.Goals.{Else-not-within_limits}
use Rattle.formula.proofs.raw_weight.Goals as goal

-- behind the first test
inside : (c : Else-not-within_limits) →
    let x = c.args in
    within_limits x.a x.d x.k x.p ≡ true
inside c = sym c.within_limits.ensures ∙ c.if-not-within_limits.false

pub returns-then-not-within_limits-clause-result_value : goal.returns-then-not-within_limits-clause-result_value
unfolding raw_weight
returns-then-not-within_limits-clause-result_value c = simp (← c.within_limits.ensures, c.if-not-within_limits.true)

pub returns-then-d-k-clause-result_value : goal.returns-then-d-k-clause-result_value
unfolding raw_weight
returns-then-d-k-clause-result_value c =
    let x = c.args in
    simp (inside (goal.at.returns-then-d-k-clause-result_value c).Else-not-within_limits, le-leb x.d x.k (omega arith))

pub returns-then-k-eq0-clause-result_value : goal.returns-then-k-eq0-clause-result_value
unfolding raw_weight
returns-then-k-eq0-clause-result_value c =
    let x = c.args in
    simp (
      inside (goal.at.returns-then-k-eq0-clause-result_value c).Else-not-within_limits,
      lt-leb x.d x.k (omega arith),
      eq-eqb x.k 0 (omega arith),
    )

pub returns-then-d-a-clause-result_value : goal.returns-then-d-a-clause-result_value
unfolding raw_weight
returns-then-d-a-clause-result_value c =
    let x = c.args in
    simp (
      inside (goal.at.returns-then-d-a-clause-result_value c).Else-not-within_limits,
      lt-leb x.d x.k (omega arith),
      ne_eqb x.k 0 c.if-k-eq0.false,
      le-leb x.d x.a (omega arith),
    )

pub returns-clause-result_value : goal.returns-clause-result_value
unfolding raw_weight
returns-clause-result_value c =
    let x = c.args in
    simp (
      inside (goal.at.returns-clause-result_value c).Else-not-within_limits,
      lt-leb x.d x.k (omega arith),
      ne_eqb x.k 0 c.if-k-eq0.false,
      lt-leb x.d x.a (omega arith),
      c.formula_weight.ensures,
    )

pub returns-clause-raw_weight : goal.returns-clause-raw_weight
returns-clause-raw_weight c =
    let x = c.args in
    (equal_keeps (IsRawWeight x.a x.d x.k x.p) (raw_weight_is x.a x.d x.k x.p) (returns-clause-result_value c)).1
