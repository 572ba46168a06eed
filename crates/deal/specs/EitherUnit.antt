-- 02, S-9: "A seventh fact is the unit of the risk weight word"; "Inside, all weights and S-7's weighted sums are kept in hundredths, and charge and cap come out as before.": a sheet with seven facts, and the
-- same sheet in either unit. Where the words of the first are good, both get the same answer and lines: `either_unit`; and the same charge and cap, which are among the terms: `same_terms_in_unit`; and the same
-- sums, of the pool and of each block: `same_sums_in_unit`, `same_blocks_in_unit` (proofs/EitherUnit.antt).
use Rattle.std.specs.Prelude.{true, List, ◌≡◌, ℕ, ◌≤◌, ◌<◌, length}
use Rattle.judgement.specs.DealSheet.{word, has_fact, unit_at, rows, weight_at, risk_weight}

-- s' is s but for the seventh fact, which is one of the two units, and the risk weights, which come to the same in hundredths of a percent
pub record EitherUnit (s s' : List ℕ) : Type 0 where
  pub seven_facts : has_fact s unit_at ≡ true
  pub same_length : length s' ≡ length s
  pub unit_code : word s' unit_at ≤ 1
  pub same_weight : (i : ℕ) → i < rows s → risk_weight s' i ≡ risk_weight s i
  pub same_word : (p : ℕ) → (p ≡ unit_at → ⊥) → ((i : ℕ) → i < rows s → p ≡ weight_at s i → ⊥) → word s' p ≡ word s p
