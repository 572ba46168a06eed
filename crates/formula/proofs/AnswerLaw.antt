-- The numbers of a raw weight settle the answer: no two answers have the same numbers. No axioms.
use mathlib.Core.Path.{◌≡◌, refl, ap}
use Rattle.std.specs.Prelude.{Result, Ok, Err}
use Rattle.numbers.specs.declared.Ends.{Ends}
use Rattle.formula.specs.Formula.{RawWeightNumbers, numbers_of}
use Rattle.formula.specs.declared.NoRawWeight.{NoRawWeight}
use Rattle.formula.specs.declared.NoRawWeight.TheVariants.{NoThickness, OutsideLimits}

pub raw_weight_settled : (r r' : Result Ends NoRawWeight) → numbers_of r ≡ numbers_of r' → r ≡ r'
raw_weight_settled r r' e = by_fields r r' (ap (λ (n : RawWeightNumbers). n.refusal) e) (ap (λ (n : RawWeightNumbers). n.weight) e)
  where
    by_fields :
        (r r' : Result Ends NoRawWeight) → (numbers_of r).refusal ≡ (numbers_of r').refusal →
        (numbers_of r).weight ≡ (numbers_of r').weight → r ≡ r'
    by_fields (Ok w) (Ok w') refusal weight = cc
    by_fields (Ok w) (Err NoThickness) refusal weight = cc
    by_fields (Ok w) (Err OutsideLimits) refusal weight = cc
    by_fields (Err NoThickness) (Ok w') refusal weight = cc
    by_fields (Err NoThickness) (Err NoThickness) refusal weight = refl
    by_fields (Err NoThickness) (Err OutsideLimits) refusal weight = cc
    by_fields (Err OutsideLimits) (Ok w') refusal weight = cc
    by_fields (Err OutsideLimits) (Err NoThickness) refusal weight = cc
    by_fields (Err OutsideLimits) (Err OutsideLimits) refusal weight = refl
