-- Laws of the judgement of a sheet's words: a word of a sound beginning is there and has no fault, the word after it decides next, and what the
-- fault of a word is in each section. No axioms.
use mathlib.Core.Bool.{Bool, true, false, cond}
use mathlib.Core.List.{List}
use mathlib.Core.Path.{◌≡◌, refl, ap, ◌∙◌}
use Prim.Native.Nat.{ℕ, ◌+◌, ◌*◌, ◌-◌, ◌≤◌, ◌<◌}
use native.Mathlib.Nat.{mul_comm, mod-lt, div-add-mod, div-lt_iff_lt-mul}
use native.Mathlib.Omega.{arith}
use lib.Dec.{ltb, eqb}
use lib.ListN.{length}
use borrow.Author.Tests.{ltb-true, eqb-true, lt-ltb, le-ltb, eq-eqb, ne_eqb}
use Rattle.judgement.specs.DealSheet.{word, pool_kind, resecuritisation, reporting_date, in_hundredths, pool_at, rows, row_at, tranches_at, tranche_count, tranche_at, amount, class, irb_at, irb_place}
use Rattle.limits.specs.SheetSize.{facts_least, facts_most, rows_most, tranches_most, irb_rows}
use Rattle.faults.specs.WordFaults.{count_fault, fact_fault, row_fault, tranche_fault, irb_fault}
use Rattle.judgement.specs.Refusals.{row_of, column_of, fault, refused, judge_with, judge, judged}
use Rattle.judgement.specs.Verdicts.{Refusal, Verdict, Sound, Faulty}
use Rattle.judgement.proofs.FirstFault.{first_of_sound, first_of_next}
use Rattle.judgement.proofs.NeededLaws.{pool_at_least, tranches_at_past_rows, irb_at_past_tranches}

-- ---- one word

pub sound_if : (b : Bool) (v : Verdict) (r : Refusal) → cond b v (Faulty r) ≡ Sound → (b ≡ true) × (v ≡ Sound)
sound_if true v r e = (refl, e)
sound_if false v r e = absurd (let z : ◌≡◌ {A = ℕ} 0 1 = cc in omega arith)

pub judge_with_sound : (size p number : ℕ) → judge_with size p number ≡ Sound → (p < size) × (number ≡ 0)
judge_with_sound size p number e =
    let outer = sound_if (ltb p size) (cond (eqb number 0) Sound (refused number p)) (record { number = 1; place = size }) e in
    let inner = sound_if (eqb number 0) Sound (record { number = number; place = p }) outer.1 in
    (ltb-true p size outer.0, eqb-true number 0 inner.0)

pub good_word : (s : List ℕ) (k p : ℕ) → judged s k ≡ Sound → p < k → (p < length s) × (fault s p ≡ 0)
unfolding judge
good_word s k p e h = judge_with_sound (length s) p (fault s p) (first_of_sound (judge s) k e p h)

pub judged_next : (s : List ℕ) (k : ℕ) → judged s k ≡ Sound → judged s (k + 1) ≡ judge_with (length s) k (fault s k)
unfolding judge
judged_next s k e = first_of_next (judge s) k e

-- ---- the fault of a word, by its section

pub fault_of_fact_count : (s : List ℕ) → fault s 0 ≡ count_fault facts_least facts_most (word s 0)
unfolding fault
fault_of_fact_count s = refl

pub fault_of_fact : (s : List ℕ) (p : ℕ) → 1 ≤ p → p < pool_at s → fault s p ≡ fact_fault (resecuritisation s) p (word s p)
unfolding fault
fault_of_fact s p least before = simp (ne_eqb p 0 (λ e. omega arith), lt-ltb p (pool_at s) before)

pub fault_of_pool_count : (s : List ℕ) → fault s (pool_at s) ≡ count_fault 1 rows_most (rows s)
unfolding fault rows
fault_of_pool_count s =
    simp (
      ne_eqb (pool_at s) 0 (λ e. omega (arith, pool_at_least s)),
      le-ltb (pool_at s) (pool_at s) (omega arith),
      eq-eqb (pool_at s) (pool_at s) refl,
    )

-- a place past the pool's count, by its row's column
fault_in_pool :
    (s : List ℕ) (p : ℕ) → pool_at s < p → p < tranches_at s →
    fault s p ≡ row_fault (resecuritisation s) (in_hundredths s) (column_of 4 (pool_at s) p) (word s p)
unfolding fault
fault_in_pool s p after before =
    simp (
      ne_eqb p 0 (λ e. omega arith),
      le-ltb p (pool_at s) (omega arith),
      ne_eqb p (pool_at s) (λ e. omega arith),
      lt-ltb p (tranches_at s) before,
    )

pub fault_of_row :
    (s : List ℕ) (i c : ℕ) → i < rows s → c < 4 → fault s (row_at s i + c) ≡ row_fault (resecuritisation s) (in_hundredths s) c (word s (row_at s i + c))
fault_of_row s i c row column =
    fault_in_pool s (row_at s i + c) (omega arith) (omega (arith, tranches_at_past_rows s)) ∙
    ap (λ (k : ℕ). row_fault (resecuritisation s) (in_hundredths s) k (word s (row_at s i + c)))
    (let is : column_of 4 (pool_at s) (row_at s i + c) ≡ c = omega arith in is)

pub fault_of_tranche_count : (s : List ℕ) → fault s (tranches_at s) ≡ count_fault 1 tranches_most (tranche_count s)
unfolding fault tranche_count
fault_of_tranche_count s =
    let after : pool_at s < tranches_at s = omega (arith, tranches_at_past_rows s) in
    simp (
      ne_eqb (tranches_at s) 0 (λ e. omega arith),
      le-ltb (tranches_at s) (pool_at s) (omega arith),
      ne_eqb (tranches_at s) (pool_at s) (λ e. omega arith),
      le-ltb (tranches_at s) (tranches_at s) (omega arith),
      eq-eqb (tranches_at s) (tranches_at s) refl,
    )

-- a place past the tranches' count, by its row and column
fault_in_tranches :
    (s : List ℕ) (p : ℕ) → tranches_at s < p → p < irb_at s →
    let i = row_of 7 (tranches_at s) p in
    fault s p ≡ tranche_fault (reporting_date s) i (class s (i - 1)) (amount s i) (column_of 7 (tranches_at s) p) (word s p)
unfolding fault
fault_in_tranches s p after before =
    let pool : pool_at s < p = omega (arith, tranches_at_past_rows s) in
    simp (
      ne_eqb p 0 (λ e. omega arith),
      le-ltb p (pool_at s) (omega arith),
      ne_eqb p (pool_at s) (λ e. omega arith),
      le-ltb p (tranches_at s) (omega arith),
      ne_eqb p (tranches_at s) (λ e. omega arith),
      lt-ltb p (irb_at s) before,
    )

pub fault_of_tranche :
    (s : List ℕ) (i c : ℕ) → i < tranche_count s → c < 7 →
    fault s (tranche_at s i + c) ≡ tranche_fault (reporting_date s) i (class s (i - 1)) (amount s i) c (word s (tranche_at s i + c))
fault_of_tranche s i c among column =
    let p = tranche_at s i + c in
    let row : row_of 7 (tranches_at s) (tranche_at s i + c) ≡ i = omega arith in
    let is : column_of 7 (tranches_at s) (tranche_at s i + c) ≡ c = omega arith in
    fault_in_tranches s p (omega arith) (omega (arith, irb_at_past_tranches s)) ∙
    ap (λ (j : ℕ). tranche_fault (reporting_date s) j (class s (j - 1)) (amount s j) (column_of 7 (tranches_at s) p) (word s p)) row ∙
    ap (λ (k : ℕ). tranche_fault (reporting_date s) i (class s (i - 1)) (amount s i) k (word s p)) is

-- a place past the tranches
fault_past_tranches :
    (s : List ℕ) (p : ℕ) → irb_at s ≤ p →
    fault s p ≡ cond (eqb p (irb_at s)) (count_fault irb_rows irb_rows (word s p)) (irb_fault (pool_kind s) (column_of 6 (irb_at s) p) (word s p))
unfolding fault
fault_past_tranches s p after =
    let tranches : tranches_at s < p = omega (arith, irb_at_past_tranches s) in
    let pool : pool_at s < p = omega (arith, tranches_at_past_rows s) in
    simp (
      ne_eqb p 0 (λ e. omega arith),
      le-ltb p (pool_at s) (omega arith),
      ne_eqb p (pool_at s) (λ e. omega arith),
      le-ltb p (tranches_at s) (omega arith),
      ne_eqb p (tranches_at s) (λ e. omega arith),
      le-ltb p (irb_at s) after,
    )

pub fault_of_irb_count : (s : List ℕ) → fault s (irb_at s) ≡ count_fault irb_rows irb_rows (word s (irb_at s))
fault_of_irb_count s = fault_past_tranches s (irb_at s) (omega arith) ∙ rw (eq-eqb (irb_at s) (irb_at s) refl)

pub fault_of_irb : (s : List ℕ) (c : ℕ) → c < 6 → fault s (irb_place s c) ≡ irb_fault (pool_kind s) c (word s (irb_place s c))
fault_of_irb s c column =
    fault_past_tranches s (irb_place s c) (omega arith) ∙
    rw (ne_eqb (irb_place s c) (irb_at s) (λ e. omega arith))
    (ap (λ (k : ℕ). irb_fault (pool_kind s) k (word s (irb_place s c)))
    (let is : column_of 6 (irb_at s) (irb_place s c) ≡ c = omega arith in is))

-- ---- a place in a section of `count` rows of `size` words, whose count is at place `at`, is one of a row's columns

pub record InSection (size at count p : ℕ) : Type 0 where
  pub i : ℕ
  pub c : ℕ
  pub row : i < count
  pub column : c < size
  pub place : p ≡ at + 1 + size * i + c

pub in_section : (size at count p : ℕ) → 0 < size → at < p → p < at + 1 + size * count → InSection size at count p
in_section size at count p some after before =
    let past = p - (at + 1) in
    let short : p - (at + 1) < count * size = omega (arith, mul_comm count size) in
    record {
      i = row_of size at p;
      c = column_of size at p;
      row = (div-lt_iff_lt-mul some).1 short;
      column = mod-lt past some;
      place = omega (arith, div-add-mod past size);
    }
