-- 02, S-3: "0 or absent means months as before. With a date, the maturity word is a date too.": a sheet with a reporting date, and the same sheet in months. That
-- both get the same answer and lines, where the words of the first are good, is `months_for_dates` (proofs/InMonths.antt).
use Rattle.std.specs.Prelude.{true, List, ◌≡◌, ℕ, ◌+◌, ◌<◌, length}
use Rattle.judgement.specs.DealSheet.{word, has_fact, tranche_count, tranche_at, months}

-- s' is s but for the sixth fact, which is 0, and the maturities, which are the months that s counts from its reporting date
pub record InMonths (s s' : List ℕ) : Type 0 where
  pub six_facts : has_fact s 6 ≡ true
  pub same_length : length s' ≡ length s
  pub no_date : word s' 6 ≡ 0
  pub maturity_in_months : (i : ℕ) → i < tranche_count s → word s' (tranche_at s i + 2) ≡ months s i
  pub same_word : (p : ℕ) → (p ≡ 6 → ⊥) → ((i : ℕ) → i < tranche_count s → p ≡ tranche_at s i + 2 → ⊥) → word s' p ≡ word s p
