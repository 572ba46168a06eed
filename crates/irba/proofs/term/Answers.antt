-- `term`: the machine multiplies what it reads back from the bits of the coefficient and of the whole number, which are these since each fits; and the product fits.
-- No axioms.
use mathlib.Core.Path.{◌≡◌, ◌∙◌}
use Prim.Native.Nat.{◌*◌, ◌≤◌}
use native.Mathlib.Nat.{le_trans, mul-le-mul}
use native.Mathlib.Omega.{arith}
use lib.IntN.{pos, ◌*ℤ◌}
use mir.Syntax.{w64}
use mir.Val.{to_z}
use mir.ValLaws.{to_z-of_z, to_z_pos}
use Rattle.irba.specs.SmallCoefficients.{SmallTerm}
use Rattle.irba.proofs.SignedLaws.{mag_product}
use Rattle.irba.proofs.term.Goals.{Start}
use Rattle.irba.proofs.term.Goals as goal

module _ (c : Start) where
  most : c.args.unit * c.args.figure * c.args.loans ≤ 15000000000000
  most = mul-le-mul c.requires.1 c.requires.2

  whole : to_z w64 (c.args.unit * c.args.figure * c.args.loans) ≡ pos (c.args.unit * c.args.figure * c.args.loans)
  whole = to_z_pos w64 (c.args.unit * c.args.figure * c.args.loans) (omega (arith, most))

  small : SmallTerm (c.args.coefficient *ℤ pos (c.args.unit * c.args.figure * c.args.loans))
  small =
      le_trans (mag_product c.args.coefficient (c.args.unit * c.args.figure * c.args.loans)) (mul-le-mul c.requires.0 most)

pub overflow_mul-result-3 : goal.overflow_mul-result-3
overflow_mul-result-3 c =
    rw (to_z-of_z w64 c.args.coefficient c.ranges.coefficient, whole (goal.at.overflow_mul-result-3 c).Start) (record { sfits = omega (arith, small (goal.at.overflow_mul-result-3 c).Start) })

pub returns : goal.returns
returns c =
    let is = to_z-of_z w64 _ (overflow_mul-result-3 (goal.at.returns c).Start) ∙ (λ i. to_z-of_z w64 c.args.coefficient c.ranges.coefficient i *ℤ whole (goal.at.returns c).Start i) in
    record { value = is; small_term = rw is (small (goal.at.returns c).Start) }
