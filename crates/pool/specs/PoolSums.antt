-- 01, "Points and pool charge": the seven sums of a pool, over which its charge and the senior cap are taken (PoolCharge.antt of `charge`). Amounts are counted
-- in whole currency units, risk weights in hundredths of a percent (02, S-9: "all weights and S-7's weighted sums are kept in hundredths").
use Rattle.std.specs.Prelude.{Bool, true, not, List, ℕ, ◌*◌, eqb}
use Rattle.numbers.specs.Sum.{sum, where_counted}
use Rattle.judgement.specs.DealSheet.{rows, exposure, nominal, risk_weight, status}
use Rattle.charge.specs.declared.Sums.{Sums}
use Rattle.charge.specs.declared.Totals.{Totals}

-- "rows with known status": every status but 2, not known
abbrev pub known : List ℕ → ℕ → Bool
known s i = not (eqb (status s i) 2)

-- "Status 3 counts as not delinquent."
abbrev pub delinquent : List ℕ → ℕ → Bool
delinquent s i = eqb (status s i) 1

abbrev pub weighted_exposure : List ℕ → ℕ → ℕ
weighted_exposure s i = exposure s i * risk_weight s i

-- the totals of the rows that count; `total` says over which rows a number is summed
abbrev pub totals_by : List ℕ → ((ℕ → ℕ) → ℕ) → (ℕ → Bool) → Totals
totals_by s total counts = record {
  exposure = total (λ i. where_counted (counts i) (exposure s i));
  nominal = total (λ i. where_counted (counts i) (nominal s i));
  weighted = total (λ i. where_counted (counts i) (weighted_exposure s i));
}

-- 02, S-7: "the pool's seven sums ... (exposure, nominal and weighted exposure, each over all rows and over the rows with known status, and late nominal)"
abbrev pub sums_by : List ℕ → ((ℕ → ℕ) → ℕ) → Sums
sums_by s total = record {
  all = totals_by s total (λ i. true);
  known = totals_by s total (λ i. known s i);
  late = (totals_by s total (λ i. delinquent s i)).nominal;
}

-- over all rows of the pool
unfoldable pub pool_sums : List ℕ → Sums
pool_sums s = sums_by s (λ f. sum f (rows s))
