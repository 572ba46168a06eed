-- A permutation of the numbers below n, with its inverse.
use Rattle.std.specs.Prelude.{◌≡◌, ℕ, ◌<◌}

-- π permutes the numbers below n, and σ is its inverse
pub record Permutation (n : ℕ) (π σ : ℕ → ℕ) : Type 0 where
  pub forth : (i : ℕ) → i < n → π i < n
  pub back : (i : ℕ) → i < n → σ i < n
  pub back_forth : (i : ℕ) → i < n → σ (π i) ≡ i
  pub forth_back : (i : ℕ) → i < n → π (σ i) ≡ i
