-- What the functions that take the sum require of coefficients and terms. No reader has to trust this file: only private contracts cite it, and every row keeps it
-- (`coefficients_small`, proofs/ParameterLimits.antt).
use Rattle.std.specs.Prelude.{◌≤◌, ◌<◌, ℤ}
use Rattle.std.specs.Int.Signed.{mag}
use Rattle.irba.specs.declared.Coefficients.{Coefficients}

-- small enough that a sum of five does not overflow
abbrev pub SmallTerm : ℤ → Type 0
SmallTerm z = mag z ≤ 15000000000000000

-- small enough that every product is a small term
pub record SmallCoefficients (c : Coefficients) : Type 0 where
  pub constant_small : mag c.constant < 1000
  pub number_small : mag c.number < 1000
  pub charge_small : mag c.charge < 1000
  pub loss_small : mag c.loss < 1000
  pub year_small : mag c.year < 1000
