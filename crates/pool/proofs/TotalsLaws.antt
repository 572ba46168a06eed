-- Totals over some rows that count: none, one row more, and how the seven sums over these rows are made of three of them. No axioms.
use mathlib.Core.Bool.{Bool, true, false, not, cond}
use mathlib.Core.List.{List}
use mathlib.Core.Path.{◌≡◌, refl, sym, ap}
use Prim.Native.Nat.{ℕ, zero, suc, ◌+◌, ◌-◌, ◌≤◌}
use native.Mathlib.Nat.{add-zero, le_refl}
use native.Mathlib.Omega.{arith}
use Rattle.judgement.specs.DealSheet.{exposure, nominal}
use Rattle.numbers.specs.Sum.{sum, sum_from, where_counted}
use Rattle.numbers.proofs.SumLaws.{sum_from_next, sum_from_none}
use Rattle.pool.specs.PoolSums.{known, delinquent, weighted_exposure, totals_by, sums_by}
use Rattle.pool.specs.BlockSums.{no_totals}
use Rattle.pool.specs.RowTotals.{totals_from, sums_from, unknown, marked_from, with_row, with_marked}
use Rattle.charge.specs.declared.Sums.{Sums}
use Rattle.charge.specs.declared.Totals.{Totals}

-- ---- two ways to sum that agree on every number give the same totals, and the same sums
module _ (s : List ℕ) (t u : (ℕ → ℕ) → ℕ) (same : (f : ℕ → ℕ) → t f ≡ u f) where
  totals_by_same : (counts : ℕ → Bool) → totals_by s t counts ≡ totals_by s u counts
  totals_by_same counts =
      rw (
        same (λ i. where_counted (counts i) (exposure s i)),
        same (λ i. where_counted (counts i) (nominal s i)),
        same (λ i. where_counted (counts i) (weighted_exposure s i)),
      ) refl

  pub sums_by_same : sums_by s t ≡ sums_by s u
  sums_by_same =
      rw (
        totals_by_same (λ i. true),
        totals_by_same (λ i. known s i),
        ap (λ (x : Totals). x.nominal) (totals_by_same (λ i. delinquent s i)),
      ) refl

-- ---- row by row

module _ (s : List ℕ) (counts : ℕ → Bool) (a : ℕ) where
  -- rows up to one that is not above the first are none
  pub totals_none : (e : ℕ) → e ≤ a → no_totals ≡ totals_from s counts a e
  totals_none e l = totals_by_same s (λ f. 0) (λ f. sum_from f a e) (λ f. sym (sum_from_none f a e l)) counts

  -- the same number of rows from the same row on
  pub totals_as_far : (i e : ℕ) → i - a ≡ e - a → totals_from s counts a i ≡ totals_from s counts a e
  totals_as_far i e far = rw far refl

  -- one row more
  totals_step :
      (i : ℕ) → a ≤ i →
      ◌≡◌ {A = Totals}
      (record {
        exposure = (totals_from s counts a i).exposure + where_counted (counts i) (exposure s i);
        nominal = (totals_from s counts a i).nominal + where_counted (counts i) (nominal s i);
        weighted = (totals_from s counts a i).weighted + where_counted (counts i) (weighted_exposure s i);
      })
      (totals_from s counts a (i + 1))
  totals_step i l =
      rw (
        sum_from_next (λ i. where_counted (counts i) (exposure s i)) a i l,
        sum_from_next (λ i. where_counted (counts i) (nominal s i)) a i l,
        sum_from_next (λ i. where_counted (counts i) (weighted_exposure s i)) a i l,
      ) refl

  pub totals_next : (i : ℕ) → a ≤ i → counts i ≡ true → with_row s (totals_from s counts a i) i ≡ totals_from s counts a (i + 1)
  totals_next i l e = rw e at (totals_step i l)

  totals_left : (i : ℕ) → a ≤ i → counts i ≡ false → totals_from s counts a i ≡ totals_from s counts a (i + 1)
  totals_left i l e = rw (add-zero _, add-zero _, add-zero _) at (rw e at (totals_step i l))

  -- a row that counts is added, and one that does not leaves the totals
  totals_where :
      (i : ℕ) → a ≤ i → cond (counts i) (with_row s (totals_from s counts a i) i) (totals_from s counts a i) ≡ totals_from s counts a (i + 1)
  totals_where i l = by_test (counts i) refl
    where
      by_test : (b : Bool) → counts i ≡ b → cond (counts i) (with_row s (totals_from s counts a i) i) (totals_from s counts a i) ≡ totals_from s counts a (i + 1)
      by_test true e = rw e (totals_next i l e)
      by_test false e = rw e (totals_left i l e)

  nominal_step : (i : ℕ) → a ≤ i → (totals_from s counts a i).nominal + where_counted (counts i) (nominal s i) ≡ (totals_from s counts a (i + 1)).nominal
  nominal_step i l = ap (λ (t : Totals). t.nominal) (totals_step i l)

-- ---- what is marked, by the row's status

module _ (s : List ℕ) (a : ℕ) where
  pub marked_none : record { unknown = no_totals; late = 0 } ≡ marked_from s a a
  marked_none =
      let late = totals_none s (λ i. delinquent s i) a a (le_refl a) in
      rw (← totals_none s (λ i. unknown s i) a a (le_refl a)) (ap (λ (t : Totals). record { unknown = no_totals; late = t.nominal }) late)

  pub marked_next : (i : ℕ) → a ≤ i → with_marked s (marked_from s a i) i ≡ marked_from s a (i + 1)
  marked_next i l = rw (totals_where s (λ i. unknown s i) a i l, nominal_step s (λ i. delinquent s i) a i l) refl

  pub marked_as_far : (i e : ℕ) → i - a ≡ e - a → marked_from s a i ≡ marked_from s a e
  marked_as_far i e far = rw far refl

-- ---- the seven sums

-- a row counts, or it does not
one_of_two : (b : Bool) (x : ℕ) → x ≡ where_counted b x + where_counted (not b) x
one_of_two true x = omega arith
one_of_two false x = omega arith

-- what counts and what does not make up all
two_parts : (f : ℕ → ℕ) (b : ℕ → Bool) (n : ℕ) → sum f n ≡ sum (λ i. where_counted (b i) (f i)) n + sum (λ i. where_counted (not (b i)) (f i)) n
unfolding sum
two_parts f b zero = refl
two_parts f b (suc n) = omega (arith, two_parts f b n, one_of_two (b n) (f n))

-- totals of all rows, of those of unknown status and of the delinquent ones make the seven sums
module _ (s : List ℕ) (first end : ℕ) (a u : Totals) (a-is : a ≡ totals_from s (λ i. true) first end) (u-is : u ≡ totals_from s (λ i. unknown s i) first end) where
  abbrev k : Totals
  k = (sums_from s first end).known

  part_and_rest :
      (f : ℕ → ℕ) →
      sum_from f first end ≡
      sum_from (λ i. where_counted (unknown s i) (f i)) first end + sum_from (λ i. where_counted (known s i) (f i)) first end
  part_and_rest f = two_parts (λ j. f (first + j)) (λ j. unknown s (first + j)) (end - first)

  parts : (a.exposure ≡ u.exposure + k.exposure) × ((a.nominal ≡ u.nominal + k.nominal) × (a.weighted ≡ u.weighted + k.weighted))
  parts =
      rw (a-is, u-is) (part_and_rest (λ i. exposure s i), (part_and_rest (λ i. nominal s i), part_and_rest (λ i. weighted_exposure s i)))

  pub unknown_among_all : (u.exposure ≤ a.exposure) × ((u.nominal ≤ a.nominal) × (u.weighted ≤ a.weighted))
  unknown_among_all = (omega (arith, parts), (omega (arith, parts), omega (arith, parts)))

  known_left : ◌≡◌ {A = Totals} (record { exposure = a.exposure - u.exposure; nominal = a.nominal - u.nominal; weighted = a.weighted - u.weighted }) k
  known_left =
      let e : a.exposure - u.exposure ≡ k.exposure = omega (arith, parts) in
      let m : a.nominal - u.nominal ≡ k.nominal = omega (arith, parts) in
      let w : a.weighted - u.weighted ≡ k.weighted = omega (arith, parts) in
      rw (e, m, w)

  pub sums_made :
      (l : ℕ) → l ≡ (totals_from s (λ i. delinquent s i) first end).nominal →
      ◌≡◌ {A = Sums}
      (record {
        all = a;
        known = record { exposure = a.exposure - u.exposure; nominal = a.nominal - u.nominal; weighted = a.weighted - u.weighted };
        late = l;
      })
      (sums_from s first end)
  sums_made l l-is = rw (known_left, a-is, l-is)
