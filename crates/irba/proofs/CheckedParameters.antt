-- The parameter and the test for SEC-IRBA at chosen inputs; the numbers were worked out from the sentences of 02, S-5, by fractions, and not from the definitions.
-- No axioms.
use mathlib.Core.Bool.{Bool, true, false}
use mathlib.Core.Path.{◌≡◌, refl}
use Prim.Native.Nat.{ℕ}
use Rattle.irba.specs.declared.IrbFigures.{IrbFigures}
use Rattle.irba.specs.IrbaDeals.{irba_applies}
use Rattle.irba.specs.Parameter.{sum_parameter, parameter}

-- the figures that the parameter reads; the others have values that it must not read
abbrev figures : ℕ → ℕ → Bool → IrbFigures
figures loss loans retail = record { charge = 40000; loss = loss; loans = loans; retail = retail; share = 1000000; average = 5000 }

-- the six rows at a charge of 6%, a loss given default of 45% and five years; a wholesale pool's depends on whether it has 25 loans or more
pub wholesale_rows :
    (parameter true false 60000 300 (figures 450000 25 false) ≡ 628900) × (parameter true false 60000 300 (figures 450000 24 false) ≡ 700150) ×
    (parameter false false 60000 300 (figures 450000 25 false) ≡ 657500) × (parameter false false 60000 300 (figures 450000 24 false) ≡ 736317)
unfolding sum_parameter parameter
wholesale_rows = (refl, refl, refl, refl)

-- a retail pool's does not
pub retail_rows :
    (parameter true false 60000 300 (figures 450000 25 true) ≡ 1070700) × (parameter true false 60000 300 (figures 450000 24 true) ≡ 1070700) ×
    (parameter false false 60000 300 (figures 450000 25 true) ≡ 1250700) × (parameter false false 60000 300 (figures 450000 24 true) ≡ 1250700)
unfolding sum_parameter parameter
retail_rows = (refl, refl, refl, refl)

-- a sum of -1.185; one of 0.5106, whose first three terms come to -0.3344
pub negative_sums :
    (parameter true false 200000 60 (figures 100000 100 true) ≡ 300000) × (parameter true false 200000 300 (figures 900000 100 false) ≡ 510600)
unfolding sum_parameter parameter
negative_sums = (refl, refl)

-- an STC deal whose sum is 0.314… once halved; one whose sum is 0.564… and once halved below 0.3; the same sum in a deal without an STC mark
pub stc_halves :
    (parameter true true 60000 300 (figures 450000 25 false) ≡ 314450) × (parameter false true 60000 220 (figures 450000 25 false) ≡ 300000) ×
    (parameter false false 60000 220 (figures 450000 25 false) ≡ 564167)
unfolding sum_parameter parameter
stc_halves = (refl, refl, refl)

-- 618,351.85… millionths, and once halved 368,158.33…
pub rounded_to_millionths :
    (parameter true false 60000 300 (figures 450000 27 false) ≡ 618352) × (parameter false true 60000 300 (figures 450000 24 false) ≡ 368159)
unfolding sum_parameter parameter
rounded_to_millionths = (refl, refl)

-- outside the limits
pub outside_limits :
    (parameter true false 1000001 300 (figures 450000 25 false) ≡ 4999999) × (parameter true false 60000 301 (figures 450000 25 false) ≡ 4999999) ×
    (parameter true false 60000 300 (figures 1000001 25 false) ≡ 4999999) × (parameter true false 60000 300 (figures 450000 0 false) ≡ 4999999) ×
    (parameter true false 60000 300 (figures 450000 1000001 false) ≡ 4999999)
unfolding sum_parameter parameter
outside_limits = (refl, refl, refl, refl, refl)

-- an IRB pool; a mixed pool by its share; an SA pool
pub pools :
    (irba_applies true false 1 1000000 ≡ true) × (irba_applies true false 2 949999 ≡ false) × (irba_applies true false 2 950000 ≡ true) ×
    (irba_applies true false 0 1000000 ≡ false)
pools = (refl, refl, refl, refl)

-- a re-securitisation, and a deal without due diligence
pub other_deals : (irba_applies true true 1 1000000 ≡ false) × (irba_applies false false 1 1000000 ≡ false)
other_deals = (refl, refl)
