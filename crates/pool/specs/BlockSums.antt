-- 02, S-7, "Totals by portfolio": "Take the pool's seven sums that way (exposure, nominal and weighted exposure, each over all rows and over the rows with known status, and late
-- nominal): per block of 50 rows, then over the blocks."
use Rattle.std.specs.Prelude.{List, [], ◌∷◌, ℕ, get_or}
use Rattle.limits.specs.SheetSize.{block_size}
use Rattle.numbers.specs.Rounding.{rounded_up}
use Rattle.numbers.specs.Sum.{sum, block_sum}
use Rattle.judgement.specs.DealSheet.{rows}
use Rattle.charge.specs.declared.Sums.{Sums}
use Rattle.charge.specs.declared.Totals.{Totals}
use Rattle.pool.specs.PoolSums.{sums_by}

-- "per block of 50 rows"; "blocks count from 0, and past the last the sums read 0": the last block may have fewer rows, and one past it has none (`past_the_last`, proofs/BlockLaws.antt)
unfoldable pub block_sums : List ℕ → ℕ → Sums
block_sums s b = sums_by s (λ f. block_sum f block_size (rows s) b)

-- the blocks of a pool, the last one whole or not
abbrev pub blocks : List ℕ → ℕ
blocks s = rounded_up (rows s) block_size

-- "then over the blocks": the sums of the first n blocks. "Every total equals the old one.": over all blocks they are `pool_sums` (`every_total`, proofs/BlockLaws.antt).
abbrev pub over_blocks : (ℕ → Sums) → ℕ → Sums
over_blocks q n = record {
  all = record {
    exposure = sum (λ b. (q b).all.exposure) n;
    nominal = sum (λ b. (q b).all.nominal) n;
    weighted = sum (λ b. (q b).all.weighted) n;
  };
  known = record {
    exposure = sum (λ b. (q b).known.exposure) n;
    nominal = sum (λ b. (q b).known.nominal) n;
    weighted = sum (λ b. (q b).known.weighted) n;
  };
  late = sum (λ b. (q b).late) n;
}

-- "past the last the sums read 0"
abbrev pub no_totals : Totals
no_totals = record { exposure = 0; nominal = 0; weighted = 0 }

abbrev pub no_sums : Sums
no_sums = record { all = no_totals; known = no_totals; late = 0 }

-- seven sums as words, in the request's order: "exposure, nominal and weighted exposure, each over all rows and over the rows with known status, and late nominal"
abbrev pub sum_words : Sums → List ℕ
sum_words q =
    q.all.exposure ∷ q.all.nominal ∷ q.all.weighted ∷
    q.known.exposure ∷ q.known.nominal ∷ q.known.weighted ∷
    q.late ∷ []

-- the sums that seven words say, in the same order
abbrev pub sums_of : List ℕ → Sums
sums_of w = record {
  all = record { exposure = get_or w 0 0; nominal = get_or w 1 0; weighted = get_or w 2 0 };
  known = record { exposure = get_or w 3 0; nominal = get_or w 4 0; weighted = get_or w 5 0 };
  late = get_or w 6 0;
}
