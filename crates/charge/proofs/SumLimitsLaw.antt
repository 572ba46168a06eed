-- The tests of a pool's sums and of an IRB section's figures, and the limits in plain relations, say the same. No axioms.
use mathlib.Core.Bool.{true}
use mathlib.Core.Path.{◌≡◌}
use borrow.Author.Tests.{le-leb, leb-true}
use Rattle.numbers.proofs.Tests.{both_true}
use Rattle.charge.specs.SumLimits.{sums_within, SumLimits, irb_within, IrbLimits}
use Rattle.irba.specs.declared.IrbFigures.{IrbFigures}
use Rattle.charge.specs.declared.Sums.{Sums}

pub limits_of_test : (q : Sums) → sums_within q ≡ true → SumLimits q
unfolding sums_within
limits_of_test q e =
    let sixth = both_true _ _ e in
    let fifth = both_true _ _ sixth.0 in
    let fourth = both_true _ _ fifth.0 in
    let third = both_true _ _ fourth.0 in
    let second = both_true _ _ third.0 in
    record {
      exposure_most = leb-true _ _ second.0;
      known_among_all = leb-true _ _ second.1;
      weighted_at_most = leb-true _ _ third.1;
      known_weighted_most = leb-true _ _ fourth.1;
      known_nominal_most = leb-true _ _ fifth.1;
      late_among_known = leb-true _ _ sixth.1;
    }

pub test_of_limits : (q : Sums) → SumLimits q → sums_within q ≡ true
unfolding sums_within
test_of_limits q l =
    simp (
      le-leb _ _ l.exposure_most,
      le-leb _ _ l.known_among_all,
      le-leb _ _ l.weighted_at_most,
      le-leb _ _ l.known_weighted_most,
      le-leb _ _ l.known_nominal_most,
      le-leb _ _ l.late_among_known,
    )

-- ---- the figures of an IRB section

pub irb_limits_of_test : (f : IrbFigures) → irb_within f ≡ true → IrbLimits f
unfolding irb_within
irb_limits_of_test f e =
    let third = both_true _ _ e in
    let second = both_true _ _ third.0 in
    record {
      share_most = leb-true _ _ second.0;
      charge_most = leb-true _ _ second.1;
      average_most = leb-true _ _ third.1;
    }

pub irb_test_of_limits : (f : IrbFigures) → IrbLimits f → irb_within f ≡ true
unfolding irb_within
irb_test_of_limits f l = simp (le-leb _ _ l.share_most, le-leb _ _ l.charge_most, le-leb _ _ l.average_most)
