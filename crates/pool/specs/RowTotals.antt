-- What the passes over a block's rows and over the blocks make, and the limits that they keep, which private contracts cite. No reader has to trust this file: `open_pool` and `sum_block`
-- (src/lib.rt) promise `pool_sums` and `block_sums`.
use Rattle.std.specs.Prelude.{Bool, cond, List, ◌≡◌, ℕ, ◌+◌, ◌*◌, ◌≤◌, ◌<◌, eqb, get_or}
use Rattle.numbers.specs.Sum.{sum_from, where_counted}
use Rattle.judgement.specs.DealSheet.{exposure, nominal, status}
use Rattle.charge.specs.declared.Sums.{Sums}
use Rattle.charge.specs.declared.Totals.{Totals}
use Rattle.pool.specs.PoolSums.{delinquent, weighted_exposure, totals_by, sums_by}
use Rattle.pool.specs.BlockSums.{block_sums, no_sums}
use Rattle.pool.specs.declared.Marked.{Marked}

-- ---- over some rows

-- the totals of those of the rows from a to before e that count, and the seven sums over these rows
abbrev pub totals_from : List ℕ → (ℕ → Bool) → ℕ → ℕ → Totals
totals_from s counts a e = totals_by s (λ f. sum_from f a e) counts

abbrev pub sums_from : List ℕ → ℕ → ℕ → Sums
sums_from s a e = sums_by s (λ f. sum_from f a e)

-- a row of status 2, not known
abbrev pub unknown : List ℕ → ℕ → Bool
unknown s i = eqb (status s i) 2

-- what is marked of these rows: the totals of those of unknown status, and the nominal of the delinquent ones
abbrev pub marked_from : List ℕ → ℕ → ℕ → Marked
marked_from s a e = record {
  unknown = totals_from s (λ i. unknown s i) a e;
  late = (totals_from s (λ i. delinquent s i) a e).nominal;
}

-- totals, and what is marked, with row i added
abbrev pub with_row : List ℕ → Totals → ℕ → Totals
with_row s t i = record {
  exposure = t.exposure + exposure s i;
  nominal = t.nominal + nominal s i;
  weighted = t.weighted + weighted_exposure s i;
}

abbrev pub with_marked : List ℕ → Marked → ℕ → Marked
with_marked s m i = record {
  unknown = cond (unknown s i) (with_row s m.unknown i) m.unknown;
  late = m.late + where_counted (delinquent s i) (nominal s i);
}

-- ---- over the blocks

-- the sum of two totals, and seven sums with those of a block added
abbrev pub totals_added : Totals → Totals → Totals
totals_added t u = record { exposure = t.exposure + u.exposure; nominal = t.nominal + u.nominal; weighted = t.weighted + u.weighted }

abbrev pub with_block : Sums → Sums → Sums
with_block q block = record { all = totals_added q.all block.all; known = totals_added q.known block.known; late = q.late + block.late }

-- the first n of an array's sums are those of the sheet's blocks
pub record Subtotals (s : List ℕ) (n : ℕ) (each : List Sums) : Type 0 where
  pub at_block : (b : ℕ) → b < n → get_or each b no_sums ≡ block_sums s b

-- ---- limits

-- the highest amount of a row, and the highest product of an exposure and a risk weight: 10^10 at 125,000 hundredths of a percent
abbrev pub amount_most : ℕ
amount_most = 10000000000

abbrev pub weighted_most : ℕ
weighted_most = 1250000000000000

-- totals over some of n rows, what is marked of n rows, and seven sums over n rows
pub record TotalsOfRows (t : Totals) (n : ℕ) : Type 0 where
  pub exposure_most : t.exposure ≤ amount_most * n
  pub nominal_most : t.nominal ≤ amount_most * n
  pub weighted_at_most : t.weighted ≤ weighted_most * n

pub record MarkedOfRows (m : Marked) (n : ℕ) : Type 0 where
  pub unknown_within : TotalsOfRows m.unknown n
  pub late_most : m.late ≤ amount_most * n

pub record SumsOfRows (q : Sums) (n : ℕ) : Type 0 where
  pub all_within : TotalsOfRows q.all n
  pub known_within : TotalsOfRows q.known n
  pub late_most : q.late ≤ amount_most * n
