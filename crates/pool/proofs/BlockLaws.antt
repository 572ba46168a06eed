-- The sums of the blocks: over all blocks they are the pool's, past the last they are 0, and each is within the limits of its rows. No axioms.
use mathlib.Core.Bool.{true}
use mathlib.Core.List.{List}
use mathlib.Core.Path.{◌≡◌, refl, sym, ap, ◌∙◌}
use Prim.Native.Nat.{ℕ, ◌+◌, ◌*◌, ◌≤◌, ◌<◌}
use native.Mathlib.Nat.{mul-le-mul_left, zero-add}
use native.Mathlib.Omega.{arith}
use lib.ListN.{get_or, take}
use Rattle.std.proofs.Common.{get_or-take}
use Rattle.limits.specs.SheetSize.{block_size, blocks_most}
use Rattle.numbers.specs.Rounding.{rounded_up}
use Rattle.numbers.specs.Sum.{sum, block_start, block_end, block_sum}
use Rattle.numbers.proofs.RoundingLaws.{rounded_up_at_least, rounded_up_at_most}
use Rattle.numbers.proofs.SumLaws.{sum_next, sum_same, sum_at_most, sum_from_none, sum_of_blocks}
use Rattle.charge.specs.declared.Sums.{Sums}
use Rattle.judgement.specs.DealSheet.{rows, needed}
use Rattle.judgement.specs.LaidOut.{LaidOut}
use Rattle.judgement.specs.Refusals.{judged}
use Rattle.judgement.specs.declared.Layout.{Layout}
use Rattle.judgement.specs.Verdicts.{Sound}
use Rattle.judgement.proofs.LayoutLaws.{rows_is}
use Rattle.judgement.proofs.SheetLimits.{rows_within, pool_counted}
use Rattle.pool.specs.PoolSums.{known, delinquent, pool_sums}
use Rattle.pool.specs.BlockSums.{block_sums, blocks, over_blocks, no_sums}
use Rattle.pool.specs.RowTotals.{amount_most, weighted_most, sums_from, with_block, Subtotals, SumsOfRows}
use Rattle.pool.proofs.PoolLaws.{total_limits}
use Rattle.pool.proofs.TotalsLaws.{sums_by_same}

-- ---- block by block

pub over_none : (q : ℕ → Sums) → no_sums ≡ over_blocks q 0
unfolding sum
over_none q = refl

pub over_next : (q : ℕ → Sums) (b : ℕ) → with_block (over_blocks q b) (q b) ≡ over_blocks q (b + 1)
over_next q b = simp sum_next

over_one : (q : ℕ → Sums) → q 0 ≡ over_blocks q 1
unfolding sum
over_one q = simp zero-add

-- equal blocks have equal sums
pub over_same : (q p : ℕ → Sums) (n : ℕ) → ((b : ℕ) → b < n → q b ≡ p b) → over_blocks q n ≡ over_blocks p n
over_same q p n same =
    let each : (part : Sums → ℕ) → sum (λ b. part (q b)) n ≡ sum (λ b. part (p b)) n = λ part. sum_same _ _ n (λ b l. ap part (same b l)) in
    rw (
      each (λ x. x.all.exposure),
      each (λ x. x.all.nominal),
      each (λ x. x.all.weighted),
      each (λ x. x.known.exposure),
      each (λ x. x.known.nominal),
      each (λ x. x.known.weighted),
      each (λ x. x.late),
    ) refl

-- one of the seven sums, over blocks of at most m rows each that have at most k rows together
part_at_most :
    (q : ℕ → Sums) (part : Sums → ℕ) (limit m n k : ℕ) → m * n ≤ k → ((b : ℕ) → b < n → part (q b) ≤ limit * m) → sum (λ b. part (q b)) n ≤ limit * k
part_at_most q part limit m n k enough h = omega (arith, sum_at_most (λ b. part (q b)) (limit * m) n h, mul-le-mul_left limit enough)

pub over_limits : (q : ℕ → Sums) (m n k : ℕ) → m * n ≤ k → ((b : ℕ) → b < n → SumsOfRows (q b) m) → SumsOfRows (over_blocks q n) k
over_limits q m n k enough each = record {
  all_within = record {
    exposure_most = part_at_most q (λ x. x.all.exposure) amount_most m n k enough (λ b l. (each b l).all_within.exposure_most);
    nominal_most = part_at_most q (λ x. x.all.nominal) amount_most m n k enough (λ b l. (each b l).all_within.nominal_most);
    weighted_at_most = part_at_most q (λ x. x.all.weighted) weighted_most m n k enough (λ b l. (each b l).all_within.weighted_at_most);
  };
  known_within = record {
    exposure_most = part_at_most q (λ x. x.known.exposure) amount_most m n k enough (λ b l. (each b l).known_within.exposure_most);
    nominal_most = part_at_most q (λ x. x.known.nominal) amount_most m n k enough (λ b l. (each b l).known_within.nominal_most);
    weighted_at_most = part_at_most q (λ x. x.known.weighted) weighted_most m n k enough (λ b l. (each b l).known_within.weighted_at_most);
  };
  late_most = part_at_most q (λ x. x.late) amount_most m n k enough (λ b l. (each b l).late_most);
}

-- ---- "Every total equals the old one."

pub every_total : (s : List ℕ) (k : ℕ) → rows s ≤ block_size * k → over_blocks (λ b. block_sums s b) k ≡ pool_sums s
unfolding block_sums pool_sums
every_total s k reach =
    sums_by_same s (λ f. sum (λ b. block_sum f block_size (rows s) b) k) (λ f. sum f (rows s)) (λ f. sum_of_blocks f block_size (rows s) k reach)

-- a pool that its first block holds has that block's sums
pub one_block : (s : List ℕ) → rows s ≤ block_size → block_sums s 0 ≡ pool_sums s
one_block s few = over_one (λ b. block_sums s b) ∙ every_total s 1 (omega arith)

-- ---- "past the last the sums read 0"

-- a block that begins behind the last row
pub no_rows_left : (s : List ℕ) (b : ℕ) → rows s ≤ block_size * b → no_sums ≡ block_sums s b
unfolding block_sums
no_rows_left s b past =
    sums_by_same s (λ f. 0) (λ f. block_sum f block_size (rows s) b)
    (λ f. sym (sum_from_none f (block_start block_size b) (block_end block_size (rows s) b) (omega arith)))

pub past_the_last : (s : List ℕ) (b : ℕ) → blocks s ≤ b → no_sums ≡ block_sums s b
past_the_last s b past = no_rows_left s b (omega (arith, rounded_up_at_least (rows s) block_size (omega arith)))

-- the sums over a block's rows
pub block_made :
    (s : List ℕ) (b first end : ℕ) (q : Sums) → first ≡ block_start block_size b → end ≡ block_end block_size (rows s) b → q ≡ sums_from s first end → q ≡ block_sums s b
unfolding block_sums
block_made s b first end q from to is = is ∙ rw (from, to) refl

-- ---- the array of the blocks' sums

-- the first n of them alone
pub taken_filled : (s : List ℕ) (n : ℕ) (each : List Sums) → Subtotals s n each → Subtotals s n (take n each)
taken_filled s n each filled = record { at_block = λ b l. rw get_or-take (filled.at_block b l) }

-- ---- the blocks of an accepted sheet

module _ (s : List ℕ) (accepted : judged s (needed s) ≡ Sound) where
  -- they reach the last row, and are at most 20
  pub blocks_within : (rows s ≤ block_size * blocks s) × (blocks s ≤ blocks_most)
  blocks_within =
      let few = rows_within s (pool_counted s accepted) in
      (omega (arith, rounded_up_at_least (rows s) block_size (omega arith)), rounded_up_at_most (rows s) block_size blocks_most (omega arith))

  pub block_limits : (b : ℕ) → SumsOfRows (block_sums s b) block_size
  unfolding block_sums
  block_limits b =
      let first = block_start block_size b in
      let end = block_end block_size (rows s) b in
      record {
        all_within = total_limits s accepted (λ i. true) first end block_size (omega arith) (omega arith);
        known_within = total_limits s accepted (λ i. known s i) first end block_size (omega arith) (omega arith);
        late_most = (total_limits s accepted (λ i. delinquent s i) first end block_size (omega arith) (omega arith)).nominal_most;
      }

  -- an array that holds the sums of the first n blocks: each is within its limits, and where these are all blocks, over them they are the pool's
  module _ (n : ℕ) (each : List Sums) (filled : Subtotals s n each) where
    pub filled_limits : (b : ℕ) → b < n → SumsOfRows (get_or each b no_sums) block_size
    filled_limits b l = rw (filled.at_block b l) (block_limits b)

    pub filled_total : n ≡ blocks s → over_blocks (λ b. get_or each b no_sums) n ≡ pool_sums s
    filled_total all =
        over_same (λ b. get_or each b no_sums) (λ b. block_sums s b) n filled.at_block ∙ every_total s n (rw all blocks_within.0)

-- no pool has a block of number 20 or above
pub no_block : (s : List ℕ) → judged s (needed s) ≡ Sound → (b : ℕ) → blocks_most ≤ b → no_sums ≡ block_sums s b
no_block s accepted b past = no_rows_left s b (omega (arith, rows_within s (pool_counted s accepted)))

-- the blocks counted from the layout
pub blocks_counted :
    (s : List ℕ) (l : Layout) → LaidOut s l → (k : ℕ) → k ≡ rounded_up l.rows block_size → (k ≡ blocks s) × (k ≤ blocks_most)
blocks_counted s l laid k is =
    let all = is ∙ ap (λ (n : ℕ). rounded_up n block_size) (rows_is s l laid) in
    (all, rw all (blocks_within s laid.good).1)
