-- Limits of a pool's sums, and what they are in percent. The sums of a sheet with good words are within the limits that its charge asks for, its nominal is 1 to 10^13, and what is divided by is
-- never 0. No axioms.
use mathlib.Core.Bool.{Bool, true, false, not}
use mathlib.Core.List.{List}
use mathlib.Core.Path.{◌≡◌, refl, ap}
use Prim.Native.Nat.{ℕ, zero, suc, ◌*◌, ◌-◌, ◌≤◌, ◌<◌}
use native.Mathlib.Nat.{le_refl, mul-le-mul_left}
use native.Mathlib.Omega.{arith}
use borrow.Author.Tests.{leb-true, eqb-true, ne_eqb}
use Rattle.limits.specs.SheetSize.{rows_most}
use Rattle.numbers.specs.Sum.{sum, where_counted}
use Rattle.numbers.proofs.SumLaws.{sum_at_most, sum_from_at_most, sum_at_least, sum_ordered, sum_scaled}
use Rattle.charge.specs.PoolCharge.{base_charge, unknown_exposure, mostly_known, pool_average}
use Rattle.charge.proofs.PoolLaws.{same_base_charge, same_average}
use Rattle.numbers.specs.Rounding.{rounded_up}
use Rattle.charge.specs.SumLimits.{SumLimits}
use Rattle.judgement.specs.DealSheet.{in_hundredths, rows, exposure, nominal, weight_word, status, needed}
use Rattle.judgement.specs.Refusals.{judged}
use Rattle.judgement.specs.Verdicts.{Sound}
use Rattle.judgement.proofs.SheetLimits.{good_row, weight_in_percent, risk_weight_most, rows_within, pool_counted}
use Rattle.pool.specs.PoolSums.{known, delinquent, weighted_exposure, pool_sums}
use Rattle.pool.specs.RowTotals.{amount_most, weighted_most, totals_from, unknown, marked_from, TotalsOfRows, MarkedOfRows}

-- ---- a number where it counts

pub counted_at_most : (counts : Bool) (x : ℕ) → where_counted counts x ≤ x
counted_at_most true x = le_refl x
counted_at_most false x = omega arith

pub counted_within : (counts : Bool) (x m : ℕ) → x ≤ m → where_counted counts x ≤ m
counted_within counts x m h = omega (arith, counted_at_most counts x)

pub counted_scaled : (counts : Bool) (x y m : ℕ) → x ≤ m * y → where_counted counts x ≤ m * where_counted counts y
counted_scaled true x y m h = h
counted_scaled false x y m h = omega arith

pub counted_among : (some more : Bool) (x : ℕ) → (some ≡ true → more ≡ true) → where_counted some x ≤ where_counted more x
counted_among true more x h = rw (h refl) (le_refl x)
counted_among false more x h = omega arith

-- ---- the rows of an accepted sheet

module _ (s : List ℕ) (accepted : judged s (needed s) ≡ Sound) where
  row_weighted : (i : ℕ) → i < rows s → weighted_exposure s i ≤ 125000 * exposure s i
  row_weighted i row = omega (arith, mul-le-mul_left (exposure s i) (risk_weight_most s i accepted row))

  -- a row's amounts are at most 10^10, its weighted exposure is at most 1.25 × 10^15, and there are at most 1,000 rows
  pub row_limits :
      (i : ℕ) → i < rows s →
      (i < rows_most) × ((exposure s i ≤ amount_most) × ((nominal s i ≤ amount_most) × (weighted_exposure s i ≤ weighted_most)))
  row_limits i row =
      let good = good_row s i accepted row in
      (omega (arith, rows_within s (pool_counted s accepted)), (good.exposure_most, (good.nominal_most, omega (arith, row_weighted i row, good.exposure_most))))

  late_known : (i : ℕ) → delinquent s i ≡ true → known s i ≡ true
  late_known i e =
      let one : status s i ≡ 1 = eqb-true (status s i) 1 e in
      ap not (ne_eqb (status s i) 2 (λ two. omega arith))

  -- the totals of those of the rows from a to before e that count, which are at most n rows
  pub total_limits : (counts : ℕ → Bool) (a e n : ℕ) → e ≤ rows s → e - a ≤ n → TotalsOfRows (totals_from s counts a e) n
  total_limits counts a e n within few = record {
    exposure_most =
        sum_from_at_most (λ i. where_counted (counts i) (exposure s i)) amount_most a e n few
        (λ i l. counted_within (counts i) (exposure s i) amount_most (good_row s i accepted (omega arith)).exposure_most);
    nominal_most =
        sum_from_at_most (λ i. where_counted (counts i) (nominal s i)) amount_most a e n few
        (λ i l. counted_within (counts i) (nominal s i) amount_most (good_row s i accepted (omega arith)).nominal_most);
    weighted_at_most =
        sum_from_at_most (λ i. where_counted (counts i) (weighted_exposure s i)) weighted_most a e n few
        (λ i l.
        counted_within (counts i) (weighted_exposure s i) weighted_most
        (omega (arith, row_weighted i (omega arith), (good_row s i accepted (omega arith)).exposure_most)));
  }

  pub marked_limits : (a e n : ℕ) → e ≤ rows s → e - a ≤ n → MarkedOfRows (marked_from s a e) n
  marked_limits a e n within few = record {
    unknown_within = total_limits (λ i. unknown s i) a e n within few;
    late_most = (total_limits (λ i. delinquent s i) a e n within few).nominal_most;
  }

-- ---- the pool of an accepted sheet

pub sum_limits : (s : List ℕ) → judged s (needed s) ≡ Sound → SumLimits (pool_sums s)
unfolding pool_sums
sum_limits s accepted =
    let counts = rows_within s (pool_counted s accepted) in
    record {
      exposure_most = omega (arith, sum_at_most (λ i. exposure s i) 10000000000 (rows s) (λ i l. (good_row s i accepted l).exposure_most));
      known_among_all =
          sum_ordered (λ i. where_counted (known s i) (exposure s i)) (λ i. exposure s i) (rows s)
          (λ i l. counted_at_most (known s i) (exposure s i));
      weighted_at_most = sum_scaled (λ i. weighted_exposure s i) (λ i. exposure s i) 125000 (rows s) (λ i l. row_weighted s accepted i l);
      known_weighted_most =
          sum_scaled (λ i. where_counted (known s i) (weighted_exposure s i)) (λ i. where_counted (known s i) (exposure s i)) 125000 (rows s)
          (λ i l. counted_scaled (known s i) (weighted_exposure s i) (exposure s i) 125000 (row_weighted s accepted i l));
      known_nominal_most =
          omega (
            arith,
            sum_at_most (λ i. where_counted (known s i) (nominal s i)) 10000000000 (rows s)
                (λ i l. counted_within (known s i) (nominal s i) 10000000000 (good_row s i accepted l).nominal_most),
          );
      late_among_known =
          sum_ordered (λ i. where_counted (delinquent s i) (nominal s i)) (λ i. where_counted (known s i) (nominal s i)) (rows s)
          (λ i l. counted_among (delinquent s i) (known s i) (nominal s i) (late_known s accepted i));
    }

pub nominal_within : (s : List ℕ) → judged s (needed s) ≡ Sound → (1 ≤ (pool_sums s).all.nominal) × ((pool_sums s).all.nominal ≤ 10000000000000)
unfolding pool_sums
nominal_within s accepted =
    let counts = rows_within s (pool_counted s accepted) in (
      omega (arith, sum_at_least (λ i. nominal s i) 1 (rows s) (λ i l. (good_row s i accepted l).nominal_least)),
      omega (arith, sum_at_most (λ i. nominal s i) 10000000000 (rows s) (λ i l. (good_row s i accepted l).nominal_most)),
    )

-- what the average and the pool charge are divided by
pub exposure_positive : (s : List ℕ) → judged s (needed s) ≡ Sound → 1 ≤ (pool_sums s).all.exposure
unfolding pool_sums
exposure_positive s accepted =
    omega (
      arith,
      rows_within s (pool_counted s accepted),
      sum_at_least (λ i. exposure s i) 1 (rows s) (λ i l. (good_row s i accepted l).exposure_least),
    )

-- what the base charge and the late share are divided by, where they count: a pool of which at most 5% of the exposure is not known has known rows
pub known_positive :
    (s : List ℕ) → judged s (needed s) ≡ Sound → mostly_known (pool_sums s) ≡ true →
    (1 ≤ (pool_sums s).known.exposure) × (1 ≤ (pool_sums s).known.nominal)
unfolding pool_sums
known_positive s accepted most =
    let all = exposure_positive s accepted in
    let few = leb-true (20 * unknown_exposure (pool_sums s)) (pool_sums s).all.exposure most in
    let positive : 1 ≤ (pool_sums s).known.exposure = omega arith in (
      positive,
      omega (
        arith,
        sum_scaled (λ i. where_counted (known s i) (exposure s i)) (λ i. where_counted (known s i) (nominal s i)) 10000000000 (rows s)
            (λ i l.
            counted_scaled (known s i) (exposure s i) (nominal s i) 10000000000
            (omega (arith, good_row s i accepted l))),
      ),
    )

-- ---- 02, S-9: "charge and cap come out as before.": in a sheet in percent the weighted sums are 100 times those of 01's exposure × risk weight, over whichever rows, and so base charge and average are those of 01's own figures

module _ (s : List ℕ) (percent : in_hundredths s ≡ false) where
  -- 01's exposure × risk weight of a row, the risk weight in percent
  abbrev in_percent : ℕ → ℕ
  in_percent i = exposure s i * weight_word s i

  counted_in_percent : (counts : Bool) (i : ℕ) → where_counted counts (weighted_exposure s i) ≡ 100 * where_counted counts (in_percent i)
  counted_in_percent true i = rw (weight_in_percent s i percent) (omega arith)
  counted_in_percent false i = omega arith

  -- `row` names the rows that are summed: of the pool each in turn, of a block those from its first on
  pub weighted_in_percent :
      (counts : ℕ → Bool) (row : ℕ → ℕ) (n : ℕ) →
      sum (λ j. where_counted (counts (row j)) (weighted_exposure s (row j))) n ≡ 100 * sum (λ j. where_counted (counts (row j)) (in_percent (row j))) n
  unfolding sum
  weighted_in_percent counts row zero = refl
  weighted_in_percent counts row (suc n) = omega (arith, weighted_in_percent counts row n, counted_in_percent (counts (row n)) (row n))

  pub base_charge_as_before :
      base_charge (pool_sums s).known ≡ rounded_up (800 * sum (λ i. where_counted (known s i) (in_percent i)) (rows s)) (pool_sums s).known.exposure
  unfolding pool_sums
  base_charge_as_before = same_base_charge (pool_sums s).known _ (weighted_in_percent (λ i. known s i) (λ i. i) (rows s))

  pub average_as_before : pool_average (pool_sums s) ≡ rounded_up (100 * sum in_percent (rows s)) (pool_sums s).all.exposure
  unfolding pool_sums
  average_as_before = same_average (pool_sums s) _ (weighted_in_percent (λ i. true) (λ i. i) (rows s))
