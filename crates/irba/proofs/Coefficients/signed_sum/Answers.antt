-- `signed_sum`: within the limits the fifth term is small as the others are. No axioms.
use native.Mathlib.Omega.{arith}
use mir.Syntax.{w64}
use mir.ValLaws.{to_z-of_z}
use Rattle.irba.proofs.ParameterLimits.{limits_of_test}
use Rattle.irba.proofs.Coefficients.signed_sum.Goals as goal

pub term-requires-5 : goal.term-requires-5
term-requires-5 c =
    let a = c.args in
    let year = c.requires.0.year_small in
    let limits = limits_of_test a.charge a.fifths a.f c.requires.1 in
    (rw (to_z-of_z w64 a.self.year (record { sfits = omega (arith, year) })) year, omega (arith, limits), limits.loans_most)
