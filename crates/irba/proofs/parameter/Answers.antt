-- `parameter`: the highest outside the limits; within them the steps of the definition, whose requirements the limits meet. No axioms.
use mathlib.Core.Bool.{true}
use mathlib.Core.Path.{◌≡◌, sym, ◌∙◌, ap, ap₂}
use mir.Syntax.{w64}
use mir.ValLaws.{to_z-of_z}
use borrow.Author.Rules.{sfits_of}
use Rattle.irba.specs.declared.Coefficients.{Coefficients}
use Rattle.irba.specs.Parameter.{few_loans, signed_sum, signed_rounded_up, raised_to, sum_parameter, within_limits}
use Rattle.irba.proofs.ParameterLimits.{Limits, coefficients_small, limits_of_test, denominator_positive, denominator_most, parameter_inside, parameter_outside}
use Rattle.irba.proofs.parameter.Goals.{Else-not-within_limits, Start}
use Rattle.irba.proofs.parameter.Goals as goal

abbrev Inside : Start → Type 0
Inside s = within_limits s.args.charge s.args.fifths s.args.f ≡ true

inside : (c : Else-not-within_limits) → Inside c.before.before
inside c = sym c.within_limits.ensures ∙ c.if-not-within_limits.false

limits : (s : Start) → Inside s → Limits s.args.charge s.args.fifths s.args.f
limits s e = limits_of_test s.args.charge s.args.fifths s.args.f e

pub returns-then-not-within_limits : goal.returns-then-not-within_limits
returns-then-not-within_limits c =
    let a = c.args in
    sym
    (parameter_outside a.senior a.stc a.charge a.fifths a.f
    (sym c.within_limits.ensures ∙ c.if-not-within_limits.true))

pub signed_sum-sum-requires : goal.signed_sum-sum-requires
signed_sum-sum-requires c =
    let a = c.args in
    (rw c.of_pool-c.ensures (coefficients_small a.senior (few_loans a.f) a.f.retail), inside (goal.at.signed_sum-sum-requires c).Else-not-within_limits)

pub signed_rounded_up-requires : goal.signed_rounded_up-requires
signed_rounded_up-requires c =
    let l = limits (goal.at.signed_rounded_up-requires c).Start (inside (goal.at.signed_rounded_up-requires c).Else-not-within_limits) in
    rw c.denominator.ensures
    (denominator_positive c.args.stc c.args.f.loans l.loans_least, denominator_most c.args.stc c.args.f.loans l.loans_most)

pub returns : goal.returns
unfolding sum_parameter
returns c =
    let a = c.args in
    let coefficients_are = ap (λ (k : Coefficients). signed_sum k a.charge a.fifths a.f) c.of_pool-c.ensures in
    let read_sum = to_z-of_z w64 c.signed_sum-sum.result (sfits_of c.signed_sum-sum.type_inv) in
    let read_rounded = to_z-of_z w64 c.signed_rounded_up.result (sfits_of c.signed_rounded_up.type_inv) in
    let divided = ap₂ signed_rounded_up (read_sum ∙ c.signed_sum-sum.ensures ∙ coefficients_are) c.denominator.ensures in
    c.raised.ensures ∙ ap (raised_to 300000) (read_rounded ∙ c.signed_rounded_up.ensures ∙ divided) ∙
    sym (parameter_inside a.senior a.stc a.charge a.fifths a.f (inside (goal.at.returns c).Else-not-within_limits))
