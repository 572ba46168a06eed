-- One pass over the tranches fills the table of the points between classes: classes never fall from row to row and rise by at most one, so what row j
-- writes is the point beneath all rows up to j, and what earlier rows wrote stays right. No axioms.
use mathlib.Core.List.{List}
use mathlib.Core.Logic.{⊎_elim}
use mathlib.Core.Path.{◌≡◌, refl, sym, ap, ◌∙◌}
use Prim.Native.Nat.{ℕ, zero, suc, ◌+◌, ◌*◌, ◌≤◌, ◌<◌}
use native.Mathlib.Nat.{mul-div_cancel_left, sub-zero, eq-or-lt_of_le, le_of_suc-le-suc, le_refl, not-suc-le-zero}
use native.Mathlib.Numerals.{add-one}
use native.Mathlib.Omega.{arith}
use lib.Dec.{ltb}
use lib.ListN.{length, get_or, set, replicate, length-set, length-replicate, get_or-replicate}
use lib.Seq.{get_or-set_same, get_or-set_other}
use borrow.Author.Tests.{lt-ltb, le-ltb}
use Rattle.judgement.specs.DealSheet.{tranche_count, amount, class, needed}
use Rattle.numbers.specs.Sum.{sum, where_counted}
use Rattle.numbers.proofs.SumLaws.{sum_next, sum_same, sum_at_most}
use Rattle.pool.specs.PoolSums.{pool_sums}
use Rattle.deal.specs.Points.{point, senior_amount}
use Rattle.deal.specs.ClassPoints.{ClassPoints}
use Rattle.judgement.specs.Refusals.{judged}
use Rattle.judgement.specs.Verdicts.{Sound}
use Rattle.judgement.proofs.SheetLimits.{first_class, next_class_within, class_within, tranches_counted, tranches_within, good_tranche}

-- the amounts of the first n tranches, and of those among them of a class below c
abbrev pub amount_to : List ℕ → ℕ → ℕ
amount_to s n = sum (λ k. amount s k) n

abbrev pub senior_to : List ℕ → ℕ → ℕ → ℕ
senior_to s c n = sum (λ k. where_counted (ltb (class s k) c) (amount s k)) n

-- the table and the running sum after the first j tranches, over a nominal N; no tranche is of a class below 1
pub record Filled (s : List ℕ) (N : ℕ) (points : List ℕ) (total j : ℕ) : Type 0 where
  pub size : length points ≡ 34
  pub total_is : total ≡ amount_to s j
  pub at_first : (c : ℕ) → c ≤ 1 → get_or points c 0 ≡ point N (senior_to s c j)
  pub at_class : (i c : ℕ) → i < j → c ≤ class s i + 1 → get_or points c 0 ≡ point N (senior_to s c j)

-- ---- before the first tranche, and after the last

-- all of the pool is left beneath nothing
whole_pool : (N : ℕ) → 0 < N → point N 0 ≡ 1000000
whole_pool N pos = simp (sub-zero N, mul-div_cancel_left 1000000 pos)

pub filled_none : (s points : List ℕ) (N : ℕ) → points ≡ replicate 34 1000000 → 0 < N → Filled s N points 0 0
unfolding sum
filled_none s points N whole pos = record {
  size = ap length whole ∙ length-replicate {A = ℕ} 34 1000000;
  total_is = refl;
  at_first = λ c h. rw whole (get_or-replicate {A = ℕ} 34 c 1000000 0 (omega arith) ∙ sym (whole_pool N pos));
  at_class = λ i c l h. absurd (not-suc-le-zero l);
}

pub filled_all : {s points : List ℕ} {N total : ℕ} → N ≡ (pool_sums s).all.nominal → Filled s N points total (tranche_count s) → ClassPoints s points
unfolding senior_amount
filled_all e f = record { at_class = λ i c l h. rw (← e) (f.at_class i c l h) }

-- ---- the next tranche

module _ (s : List ℕ) (accepted : judged s (needed s) ≡ Sound) where
  pub classes_sorted : (i j : ℕ) → i ≤ j → j < tranche_count s → class s i ≤ class s j
  classes_sorted i zero h row = let e : i ≡ 0 = omega arith in rw e (le_refl _)
  classes_sorted i (suc j) h row =
      ⊎_elim
      (λ e. rw e (le_refl _))
      (λ l.
      let next = rw (add-one j) at (next_class_within s j accepted (omega arith)) in
      omega (arith, classes_sorted i j (le_of_suc-le-suc l) (omega arith)))
      (eq-or-lt_of_le h)

  pub amount_to_most : (j : ℕ) → j ≤ tranche_count s → amount_to s j ≤ 10000000000000 * j
  amount_to_most j h =
      sum_at_most (λ k. amount s k) 10000000000000 j (λ k l. (good_tranche s k accepted (omega arith)).amount_at_most)

  -- all tranches up to j are senior to the class after that of j
  all_senior : (j : ℕ) → j < tranche_count s → amount_to s (j + 1) ≡ senior_to s (class s j + 1) (j + 1)
  all_senior j row =
      sum_same (λ k. amount s k) (λ k. where_counted (ltb (class s k) (class s j + 1)) (amount s k)) (j + 1)
      (λ k l. simp (lt-ltb (class s k) (class s j + 1) (omega (arith, classes_sorted k j (omega arith) row))))

  -- tranche j is not senior to a class that is not above its own
  not_senior : (c j : ℕ) → c ≤ class s j → senior_to s c j ≡ senior_to s c (j + 1)
  not_senior c j h =
      let none : where_counted (ltb (class s j) c) (amount s j) ≡ 0 = simp (le-ltb (class s j) c h) in
      omega (arith, sum_next (λ k. where_counted (ltb (class s k) c) (amount s k)) j)

  -- the places up to the class of tranche j are filled before it is met
  filled_before :
      {points : List ℕ} {N total : ℕ} (c j : ℕ) → Filled s N points total j → j < tranche_count s → c ≤ class s j →
      get_or points c 0 ≡ point N (senior_to s c j)
  filled_before c zero f row h = f.at_first c (omega (arith, first_class s accepted))
  filled_before c (suc j) f row h =
      let next = rw (add-one j) at (next_class_within s j accepted (omega arith)) in
      f.at_class j c (omega arith) (omega arith)

  module _ (N : ℕ) (points : List ℕ) (total j : ℕ) (f : Filled s N points total j) (row : j < tranche_count s) where
    -- what row j writes: the point beneath all rows up to j
    abbrev next : ℕ
    next = point N (total + amount s j)

    -- the place after the class of tranche j is the one that is written
    written : get_or (set points (class s j + 1) next) (class s j + 1) 0 ≡ point N (senior_to s (class s j + 1) (j + 1))
    written =
        let within : class s j + 1 < length points =
        omega (arith, f.size, (class_within s j accepted row).1, tranches_within s (tranches_counted s accepted)) in
        let added : total + amount s j ≡ amount_to s (j + 1) = omega (arith, f.total_is, sum_next (λ k. amount s k) j) in
        get_or-set_same points (class s j + 1) next 0 within ∙ ap (point N) (added ∙ all_senior j row)

    kept : (c : ℕ) → c ≤ class s j → get_or (set points (class s j + 1) next) c 0 ≡ point N (senior_to s c (j + 1))
    kept c h =
        get_or-set_other points (class s j + 1) c next 0 (λ same. omega arith) ∙
        filled_before c j f row h ∙
        ap (point N) (not_senior c j h)

    up_to_next : (i c : ℕ) → i < j + 1 → c ≤ class s i + 1 → c ≤ class s j + 1
    up_to_next i c l h = omega (arith, classes_sorted i j (omega arith) row)

    filled_next : Filled s N (set points (class s j + 1) next) (total + amount s j) (j + 1)
    filled_next = record {
      size = length-set points (class s j + 1) next ∙ f.size;
      total_is = omega (arith, f.total_is, sum_next (λ k. amount s k) j);
      at_first = λ c h. kept c (omega (arith, (class_within s j accepted row).0));
      at_class = λ i c l h. ⊎_elim (λ e. rw e written) (λ below. kept c (omega arith)) (eq-or-lt_of_le (up_to_next i c l h));
    }

    -- the same of a place, a total and a point that are known by their equations
    pub filled_put :
        (place new put : ℕ) → place ≡ class s j + 1 → new ≡ total + amount s j → put ≡ point N new → Filled s N (set points place put) new (j + 1)
    filled_put place new put at is put_is = rw (put_is, at, is) filled_next
