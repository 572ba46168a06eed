-- The test of the limits says what the limits say. No axioms.
use mathlib.Core.Bool.{true, ◌&&◌}
use mathlib.Core.Path.{◌≡◌, subst, sym}
use Prim.Native.Nat.{ℕ}
use lib.Dec.{T, leb, ltb, leb→le, ltb→lt}
use borrow.Author.Tests.{le-leb, lt-ltb}
use Rattle.formula.specs.Formula.{WithinLimits}
use Rattle.formula.specs.FixedPoint.{within_limits}
use Rattle.numbers.proofs.Tests.{and_both}

module _ (A D K p : ℕ) where
  pub limits_of_test : within_limits A D K p ≡ true → WithinLimits A D K p
  limits_of_test e =
      let a = leb A 1000000 in
      let d = leb D 1000000 in
      let k = leb K 1000000 in
      let least = leb 300000 p in
      let most = ltb p 5000000 in
      let upto_most = and_both (a && d && k && least) most (subst T (sym e) tt) in
      let upto_least = and_both (a && d && k) least upto_most.0 in
      let points = and_both (a && d) k upto_least.0 in
      let tranche = and_both a d points.0 in
      record {
        attachment = leb→le A 1000000 tranche.0;
        detachment = leb→le D 1000000 tranche.1;
        charge = leb→le K 1000000 points.1;
        parameter_least = leb→le 300000 p upto_least.1;
        parameter_most = ltb→lt p 5000000 upto_most.1;
      }

  pub test_of_limits : WithinLimits A D K p → within_limits A D K p ≡ true
  test_of_limits l =
      simp (
        le-leb A 1000000 l.attachment,
        le-leb D 1000000 l.detachment,
        le-leb K 1000000 l.charge,
        le-leb 300000 p l.parameter_least,
        lt-ltb p 5000000 l.parameter_most,
      )
