-- `signed_rounded_up`: the machine reads back from the bits of the sum the sum, since it fits; below 0 its quotient, cut off toward 0, is the one rounded up, and
-- from 0 up whole numbers are divided. No axioms.
use mathlib.Core.Bool.{false}
use mathlib.Core.Path.{◌≡◌, ◌∙◌, ap}
use Prim.Native.Nat.{◌*◌, ◌≤◌}
use native.Mathlib.Nat.{le-mul_of_pos_right}
use native.Mathlib.Omega.{arith}
use lib.IntN.{pos, nat_abs}
use lib.Signed.{lt_z}
use mir.Syntax.{w64}
use mir.Val.{to_z, of_z}
use mir.ValLaws.{to_z-of_z, to_z_pos}
use Rattle.numbers.proofs.RoundingLaws.{rounded_up_at_most}
use Rattle.numbers.specs.Rounding.{rounded_up}
use Rattle.irba.proofs.SignedLaws.{rounded_up_from_zero, mag_from_zero}
use Rattle.irba.proofs.signed_rounded_up.Goals.{After-rounded_up, Else-sum-lt0, Start}
use Rattle.irba.proofs.signed_rounded_up.Goals as goal

read : (c : Start) → to_z w64 (of_z w64 c.args.sum) ≡ c.args.sum
read c = to_z-of_z w64 c.args.sum c.ranges.sum

from_zero : (c : Else-sum-lt0) → lt_z c.args.sum (pos 0) ≡ false
from_zero c = rw (read c.before) at c.if-sum-lt0.false

rounded : (c : After-rounded_up) → c.rounded_up.result ≡ rounded_up (nat_abs c.args.sum) c.args.d
rounded c = rw (read c.before.before) at c.rounded_up.ensures

pub returns-else-sum-lt0 : goal.returns-else-sum-lt0
returns-else-sum-lt0 c =
    let s = c.args in
    let at = (goal.at.returns-else-sum-lt0 c).After-rounded_up in
    let n = nat_abs s.sum in
    let most : n ≤ n * s.d = le-mul_of_pos_right n c.requires.0 in
    let is = rounded at in
    let least = mag_from_zero 0 s.sum (from_zero at.before) in
    to_z_pos w64 c.rounded_up.result (omega (arith, is, rounded_up_at_most n s.d n most, least, c.ranges.sum.sfits)) ∙ ap pos is ∙
    rounded_up_from_zero s.sum s.d (from_zero at.before)
