-- The parameter is what specs/ParameterMeans.antt says, and no other number is. No axioms.
use mathlib.Core.Bool.{Bool, true}
use mathlib.Core.Logic.{⊎_elim}
use mathlib.Core.Path.{◌≡◌, ◌∙◌}
use Prim.Native.Nat.{ℕ, ◌+◌, ◌*◌, ◌-◌, ◌≤◌, ◌<◌, max}
use native.Mathlib.Nat.{eq-zero-or-pos, mul-le-mul_right, lt_of_mul-lt-mul_right}
use native.Mathlib.Omega.{arith}
use lib.IntN.{ℤ, pos, ◌+ℤ◌}
use lib.Signed.{◌≤ℤ◌, ◌<ℤ◌}
use Rattle.numbers.proofs.RoundingLaws.{rounded_up_at_least, rounded_up_below, rounded_up_at_most}
use Rattle.numbers.specs.Rounding.{rounded_up}
use Rattle.irba.specs.declared.IrbFigures.{IrbFigures}
use Rattle.irba.specs.Parameter.{pool_sum, denominator, within_limits, parameter}
use Rattle.irba.specs.ParameterMeans.{IsParameter}
use Rattle.irba.proofs.ParameterLimits.{limits_of_test, denominator_positive, sum_parameter_is, parameter_inside, parameter_least}
use Rattle.irba.proofs.SignedLaws.{part_above_zero, above_zero_at_most, at_most_above_zero, below_above_zero, above_zero_below}

-- a quotient rounded up and then raised to a least number
module _ (least : ℕ) (z : ℤ) (d p : ℕ) (some : 0 < d) (is : p ≡ max (rounded_up (part_above_zero z) d) least) where
  raised_covers : z ≤ℤ pos (p * d)
  raised_covers =
      let rounded : rounded_up (part_above_zero z) d ≤ p = omega arith in
      at_most_above_zero z (p * d) (omega (arith, rounded_up_at_least (part_above_zero z) d some, mul-le-mul_right d rounded))

  raised_no_higher : least < p → pos (p * d) <ℤ (z +ℤ pos d)
  raised_no_higher above =
      let rounded : p ≡ rounded_up (part_above_zero z) d = omega arith in
      ⊎_elim
      (λ none. absurd (omega (arith, rounded_up_at_most (part_above_zero z) d 0 (omega arith))))
      (λ positive. above_zero_below z (p * d) d positive (rw rounded (rounded_up_below (part_above_zero z) d some)))
      (eq-zero-or-pos (part_above_zero z))

-- a number that covers z is no lower than one that is no higher than it need be
no_lower :
    (least : ℕ) (z : ℤ) (d p q : ℕ) → least ≤ p → z ≤ℤ pos (p * d) → (least < q → pos (q * d) <ℤ (z +ℤ pos d)) → q ≤ p
no_lower least z d p q at_least covers no_higher =
    ⊎_elim
    (λ none. omega arith)
    (λ above.
    let close = below_above_zero z (q * d) d (no_higher (omega arith)) in
    let below : q < p + 1 = lt_of_mul-lt-mul_right d (omega (arith, close, above_zero_at_most z (p * d) covers)) in
    omega arith)
    (eq-zero-or-pos (q - p))

module _ (senior stc : Bool) (charge fifths : ℕ) (f : IrbFigures) where
  pub parameter_means : within_limits charge fifths f ≡ true → IsParameter senior stc charge fifths f (parameter senior stc charge fifths f)
  parameter_means inside =
      let z = pool_sum senior charge fifths f in
      let d = denominator stc f.loans in
      let p = parameter senior stc charge fifths f in
      let some = denominator_positive stc f.loans (limits_of_test charge fifths f inside).loans_least in
      let is = parameter_inside senior stc charge fifths f inside ∙ sum_parameter_is senior stc charge fifths f in
      record {
        at_least = parameter_least senior stc charge fifths f;
        covers = raised_covers 300000 z d p some is;
        no_higher = raised_no_higher 300000 z d p some is;
      }

  pub parameter_unique : (p q : ℕ) → IsParameter senior stc charge fifths f p → IsParameter senior stc charge fifths f q → p ≡ q
  parameter_unique p q is-p is-q =
      let z = pool_sum senior charge fifths f in
      let d = denominator stc f.loans in
      omega (
        arith,
        no_lower 300000 z d p q is-p.at_least is-p.covers is-q.no_higher,
        no_lower 300000 z d q p is-q.at_least is-q.covers is-p.no_higher,
      )
