-- The number of an approach tells which approach it is. No axioms.
use Rattle.std.specs.Prelude.{◌≡◌, ℕ, [], ◌∷◌, get_or}
use mathlib.Core.Path.{refl, ap, sym, ◌∙◌}
use Rattle.weights.specs.Approaches.{number_of}
use Rattle.weights.specs.declared.approaches.Approach.{Approach}
use Rattle.weights.specs.declared.approaches.Approach.TheVariants.{Fallback, Erba, Sa, Irba}

abbrev approach_of : ℕ → Approach
approach_of n = get_or (Fallback ∷ Erba ∷ Sa ∷ Irba ∷ []) n Fallback

read_back : (a : Approach) → approach_of (number_of a) ≡ a
read_back Fallback = refl
read_back Erba = refl
read_back Sa = refl
read_back Irba = refl

pub same_approach : (a b : Approach) → number_of a ≡ number_of b → a ≡ b
same_approach a b e = sym (read_back a) ∙ ap approach_of e ∙ read_back b
