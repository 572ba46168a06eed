-- 02, S-5, "SEC-IRBA" (d374 paragraph 56 for the sum and its coefficients, 115 for STC deals; CRE44): the supervisory parameter of approach 3, in
-- millionths. The sum may be negative, so it is a signed number, a numerator over a common denominator; nothing is cut off before the last step.
use Rattle.std.specs.Prelude.{Bool, cond, ◌&&◌, ℕ, suc, ◌*◌, ◌/◌, max, leb, ltb, ℤ, pos, negsuc, neg_ℤ, ◌+ℤ◌, ◌*ℤ◌}
use Rattle.numbers.specs.Limits.{within}
use Rattle.numbers.specs.Rounding.{rounded_up}
use Rattle.irba.specs.declared.Coefficients.{Coefficients}
use Rattle.irba.specs.declared.IrbFigures.{IrbFigures}

-- ---- "the sum from CRE44: constant, per 1/number, per charge (the one just worked out), per loss, per year of tranche maturity"

-- five coefficients in hundredths, the third of them negative
abbrev pub row : ℕ → ℕ → ℕ → ℕ → ℕ → Coefficients
row constant number charge loss year =
    record { constant = pos constant; number = pos number; charge = neg_ℤ (pos charge); loss = pos loss; year = pos year }

-- "Wholesale senior: 0, 3.56, -1.85, 0.55, 0.07; under 25 loans 0.11, 2.61, -2.91, 0.68, 0.07."
abbrev pub wholesale_senior : Bool → Coefficients
wholesale_senior few = cond few (row 11 261 291 68 7) (row 0 356 185 55 7)

-- "Wholesale non-senior: 0.16, 2.87, -1.03, 0.21, 0.07; under 25: 0.22, 2.35, -2.46, 0.48, 0.07."
abbrev pub wholesale_non_senior : Bool → Coefficients
wholesale_non_senior few = cond few (row 22 235 246 48 7) (row 16 287 103 21 7)

-- "Retail senior: 0, 0, -7.48, 0.71, 0.24; non-senior: 0, 0, -5.78, 0.55, 0.27.", however many loans there are
abbrev pub retail_pool : Bool → Coefficients
retail_pool senior = cond senior (row 0 0 748 71 24) (row 0 0 578 55 27)

abbrev pub coefficients : Bool → Bool → Bool → Coefficients
coefficients senior few retail =
    cond retail (retail_pool senior)
    (cond senior (wholesale_senior few)
    (wholesale_non_senior few))

-- "under 25 loans"
abbrev pub few_loans : IrbFigures → Bool
few_loans f = ltb f.loans 25

-- The sum in millionths, times 300 × number. A coefficient counts 10,000 millionths; the charge and the loss are millionths of 1, and the maturity is in fifths of a month,
-- 60 of which are a year.
abbrev pub signed_sum : Coefficients → ℕ → ℕ → IrbFigures → ℤ
signed_sum c charge fifths f =
    c.constant *ℤ pos (3000000 * f.loans) +ℤ
    c.number *ℤ pos 3000000 +ℤ
    c.charge *ℤ pos (3 * charge * f.loans) +ℤ
    c.loss *ℤ pos (3 * f.loss * f.loans) +ℤ
    c.year *ℤ pos (50000 * fifths * f.loans)

-- the sum with the coefficients of the class and the pool
abbrev pub pool_sum : Bool → ℕ → ℕ → IrbFigures → ℤ
pool_sum senior charge fifths f = signed_sum (coefficients senior (few_loans f) f.retail) charge fifths f

-- what the sum is over: 300 × number; "STC halves the sum before rounding."
abbrev pub denominator : Bool → ℕ → ℕ
denominator stc loans = cond stc 600 300 * loans

-- ---- "rounded up to a millionth", "The parameter is at least 0.3"; "The sum may be negative before the 0.3 is applied."

-- the least whole number that is no lower than the fraction
abbrev pub signed_rounded_up : ℤ → ℕ → ℤ
signed_rounded_up (pos n) d = pos (rounded_up n d)
signed_rounded_up (negsuc n) d = neg_ℤ (pos (suc n / d))

-- the larger of two numbers, of which the second is signed
abbrev pub raised_to : ℕ → ℤ → ℕ
raised_to least (pos n) = max n least
raised_to least (negsuc n) = least

unfoldable pub sum_parameter : Bool → Bool → ℕ → ℕ → IrbFigures → ℕ
sum_parameter senior stc charge fifths f =
    raised_to 300000 (signed_rounded_up (pool_sum senior charge fifths f) (denominator stc f.loans))

-- ---- the parameter on all inputs

-- charge and loss of at most 1, a tranche maturity of at most five years, and 1 to 10^6 loans, as every sheet with good words and an IRB section has them
abbrev pub within_limits : ℕ → ℕ → IrbFigures → Bool
within_limits charge fifths f =
    leb charge 1000000 && leb fifths 300 && leb f.loss 1000000 && within 1 1000000 f.loans

-- within the limits the sum's; outside them, where no such sheet's figures are, the highest that the formula takes, so that nobody gets one that is too low
unfoldable pub parameter : Bool → Bool → ℕ → ℕ → IrbFigures → ℕ
parameter senior stc charge fifths f = cond (within_limits charge fifths f) (sum_parameter senior stc charge fifths f) 4999999
