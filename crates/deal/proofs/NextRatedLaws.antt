-- The table of rated rows is filled from the last row up: what each row writes is itself where it is rated, and else what the row after it has. The table of what is taken is filled
-- from the first row on, and says which row counts. No axioms.
use mathlib.Core.Bool.{Bool, true, false, cond, not, ◌&&◌}
use mathlib.Core.List.{List}
use mathlib.Core.Logic.{⊎_elim}
use mathlib.Core.Path.{◌≡◌, refl, sym, ◌∙◌}
use Prim.Native.Nat.{ℕ, ◌+◌, ◌-◌, ◌≤◌, ◌<◌}
use native.Mathlib.Nat.{eq-zero-or-pos, le_refl}
use native.Mathlib.Omega.{arith}
use lib.Dec.{ltb, eqb}
use lib.ListN.{length, get_or, set, replicate, length-set, get_or-replicate}
use lib.Seq.{get_or-set_same, get_or-set_other}
use borrow.Author.Tests.{ltb-true, lt-ltb, le-ltb, ne_eqb}
use Rattle.numbers.proofs.Tests.{both_true, at_cond}
use Rattle.judgement.specs.DealSheet.{tranche_count}
use Rattle.weights.specs.declared.Terms.{Terms}
use Rattle.deal.specs.InferredRatings.{rated_row, is_reference, reference_row, infers_ratings, infers, rating_row}
use Rattle.deal.specs.NextRated.{FirstRatedFrom, NextRated, taken_row, TakenRows}
use Rattle.deal.proofs.InferredLaws.{and_false, unrated_no_reference, no_reference}

-- ---- the first rated row from a row on

pub rated_past_last : (s : List ℕ) → FirstRatedFrom s (tranche_count s) (tranche_count s)
rated_past_last s = record {
  at_least = le_refl _;
  at_most = le_refl _;
  is_rated = λ l. absurd (omega arith);
  none_between = λ k h l. absurd (omega arith);
}

-- the row itself, where it is rated
pub rated_here : (s : List ℕ) (j : ℕ) → j < tranche_count s → rated_row s j ≡ true → FirstRatedFrom s j j
rated_here s j l e = record {
  at_least = le_refl _;
  at_most = omega arith;
  is_rated = λ _. e;
  none_between = λ k h m. absurd (omega arith);
}

-- else that of the row after it
pub rated_later : (s : List ℕ) (j r : ℕ) → rated_row s j ≡ false → FirstRatedFrom s (j + 1) r → FirstRatedFrom s j r
rated_later s j r e f = record {
  at_least = omega (arith, f.at_least);
  at_most = f.at_most;
  is_rated = f.is_rated;
  none_between = λ k h m.
      ⊎_elim
      (λ z.
      let same : k ≡ j = omega arith in
      rw same e)
      (λ pos. f.none_between k (omega arith) m)
      (eq-zero-or-pos (k - j));
}

-- ---- the table

pub last_filled :
    (s next : List ℕ) → length next ≡ 33 → tranche_count s ≤ 32 → NextRated s (set next (tranche_count s) (tranche_count s)) (tranche_count s)
last_filled s next size few = record {
  size = length-set next (tranche_count s) (tranche_count s) ∙ size;
  at_row = λ j least most.
      let last : j ≡ tranche_count s = omega arith in
      rw (last, get_or-set_same next (tranche_count s) (tranche_count s) 0 (omega (arith, size))) (rated_past_last s);
}

pub next_filled :
    (s next : List ℕ) (from j r : ℕ) → from ≡ j + 1 → from ≤ tranche_count s → tranche_count s ≤ 32 → NextRated s next from → FirstRatedFrom s j r →
    NextRated s (set next j r) j
next_filled s next from j r is most few table first = record {
  size = length-set next j r ∙ table.size;
  at_row = λ k least past.
      ⊎_elim
      (λ z.
      let same : k ≡ j = omega arith in
      rw (same, get_or-set_same next j r 0 (omega (arith, table.size))) first)
      (λ pos. rw (get_or-set_other next j k r 0 (λ same. omega arith)) (table.at_row k (omega arith) past))
      (eq-zero-or-pos (k - j));
}

-- ---- a search through it: none of the rows that it passes over is a reference

pub none_up_to : {test : ℕ → Bool} {j : ℕ} → ((k : ℕ) → k < j → test k ≡ false) → test j ≡ false → (k : ℕ) → k < j + 1 → test k ≡ false
none_up_to {test} {j} before here k l =
    ⊎_elim
    (λ z.
    let same : k ≡ j = omega arith in
    rw same here)
    (λ pos. before k (omega arith))
    (eq-zero-or-pos (j - k))

pub passed_over :
    (s : List ℕ) (i j r : ℕ) → FirstRatedFrom s j r → ((k : ℕ) → k < j → is_reference s i k ≡ false) → (k : ℕ) → k < r → is_reference s i k ≡ false
passed_over s i j r first before k l =
    ⊎_elim
    (λ z. unrated_no_reference s i k (first.none_between k (omega arith) l))
    (λ pos. before k (omega arith))
    (eq-zero-or-pos (j - k))

-- ---- what a tranche takes

pub taken_without_reference : (inferring : Bool) (s : List ℕ) (i : ℕ) → tranche_count s ≤ reference_row s i → taken_row inferring s i ≡ 0
taken_without_reference inferring s i none = simp (le-ltb (reference_row s i) (tranche_count s) none, and_false)

pub taken_found : (s : List ℕ) (i : ℕ) → rated_row s i ≡ false → reference_row s i < tranche_count s → taken_row true s i ≡ reference_row s i + 1
taken_found s i unrated found = simp (unrated, lt-ltb (reference_row s i) (tranche_count s) found)

-- nothing, where the deal infers none
taken_none : (s : List ℕ) (i : ℕ) → taken_row false s i ≡ 0
taken_none s i = simp and_false

-- it is a row of the sheet, and fits a byte
pub taken_small : (inferring : Bool) (s : List ℕ) (i : ℕ) → taken_row inferring s i ≤ tranche_count s
taken_small inferring s i =
    at_cond (λ n. n ≤ tranche_count s) (not (rated_row s i) && inferring && ltb (reference_row s i) (tranche_count s)) (reference_row s i + 1) 0
    (λ e. omega (arith, ltb-true (reference_row s i) (tranche_count s) (both_true (not (rated_row s i) && inferring) (ltb (reference_row s i) (tranche_count s)) e).1))
    (λ _. omega arith)

-- and what it says is the row whose ratings count
pub row_of_taken :
    (d : Terms) (s : List ℕ) (i taken : ℕ) → taken ≡ taken_row (infers_ratings d) s i → cond (eqb taken 0) i (taken - 1) ≡ rating_row d s i
unfolding rating_row
row_of_taken d s i taken is = rw is (by_test (infers d s i))
  where
    by_test : (b : Bool) → cond (eqb (cond b (reference_row s i + 1) 0) 0) i (cond b (reference_row s i + 1) 0 - 1) ≡ cond b (reference_row s i) i
    by_test true = simp (ne_eqb (reference_row s i + 1) 0 (λ z. omega arith)) (omega arith)
    by_test false = refl

-- ---- the table of what is taken

-- of the first n tranches
pub record TakenTo (s taken : List ℕ) (n : ℕ) : Type 0 where
  pub size : length taken ≡ 32
  pub at_row : (i : ℕ) → i < n → get_or taken i 0 ≡ taken_row true s i

pub none_taken :
    (d : Terms) (s taken : List ℕ) → taken ≡ replicate 32 0 → infers_ratings d ≡ false → tranche_count s ≤ 32 → TakenRows d s taken
none_taken d s taken zeros by few = record {
  at_row = λ i l. rw (by, zeros) (get_or-replicate {A = ℕ} 32 i 0 0 (omega arith) ∙ sym (taken_none s i));
}

-- or where no tranche is rated
pub none_to_take :
    (d : Terms) (s taken : List ℕ) (r : ℕ) → taken ≡ replicate 32 0 → FirstRatedFrom s 0 r → r ≡ tranche_count s → tranche_count s ≤ 32 → TakenRows d s taken
none_to_take d s taken r zeros first none few = record {
  at_row = λ i l.
      let served = passed_over s i 0 r first (λ k h. absurd (omega arith)) in
      let nothing = no_reference s i (λ k h. served k (omega (arith, none))) in
      rw zeros (get_or-replicate {A = ℕ} 32 i 0 0 (omega arith) ∙ sym (taken_without_reference (infers_ratings d) s i (omega (arith, nothing))));
}

pub taken_next : (s taken : List ℕ) (i r : ℕ) → i < 32 → TakenTo s taken i → r ≡ taken_row true s i → TakenTo s (set taken i r) (i + 1)
taken_next s taken i r few table is = record {
  size = length-set taken i r ∙ table.size;
  at_row = λ k l.
      ⊎_elim
      (λ z.
      let same : k ≡ i = omega arith in
      rw (same, get_or-set_same taken i r 0 (omega (arith, table.size))) is)
      (λ pos. rw (get_or-set_other taken i k r 0 (λ same. omega arith)) (table.at_row k (omega arith)))
      (eq-zero-or-pos (i - k));
}

pub taken_all : (d : Terms) (s taken : List ℕ) → infers_ratings d ≡ true → TakenTo s taken (tranche_count s) → TakenRows d s taken
taken_all d s taken by table = record { at_row = λ i l. rw by (table.at_row i l) }
