-- A sheet whose list of facts is filled with zeros: each of its words stands where `moved` says, so it has the same facts, rows and tranches, and its words
-- get the same verdict, at the place that has moved. No axioms.
use mathlib.Core.List.{List, [], ◌∷◌, ◌++◌}
use mathlib.Core.Logic.{inl}
use mathlib.Core.Path.{◌≡◌, refl, sym, ap, ◌∙◌}
use Prim.Native.Nat.{ℕ, zero, suc, ◌+◌, ◌-◌, ◌≤◌, ◌<◌}
use native.Mathlib.Nat.{add-zero, le_refl}
use native.Mathlib.Omega.{arith}
use lib.Dec.{ltb}
use lib.ListN.{length, get_or, take, drop, replicate, length-append, length-drop, length-replicate, get_or-replicate, get_or-append, take-append-drop}
use lib.Seq.{length-take-le, get_or-append-add, get_or-take, get_or-drop}
use borrow.Author.Tests.{lt-ltb, le-ltb, ne_eqb}
use Rattle.numbers.proofs.Tests.{within_is, same_ltb, same_eqb}
use Rattle.faults.proofs.GoodWordsLaw.{fact_good}
use Rattle.limits.specs.SheetSize.{facts_least, facts_most}
use Rattle.judgement.specs.DealSheet.{word, pool_kind, resecuritisation, fact, reporting_date, in_hundredths, pool_at, rows, row_at, tranches_at, tranche_count, tranche_at, amount, irb_at, irb_place, irb_figures, irb_words, needed}
use Rattle.judgement.specs.FilledFacts.{CanFill, filled, moved}
use Rattle.judgement.specs.Refusals.{row_of, fault, refused, judge_with, judge, first_of, judged, words_follow, words_verdict}
use Rattle.judgement.specs.Verdicts.{Sound}
use Rattle.judgement.proofs.Judgement.{fault_of_fact_count, fault_of_fact}
use Rattle.judgement.proofs.MovedVerdicts.{at_moved, moved_or_else, moved_cond, judge_with_moved, first_of_moved, first_of_some_more, first_of_shifted}
use Rattle.judgement.proofs.NeededLaws.{tranches_at_past_rows, irb_at_past_tranches, needed_is, pool_count_needed}
use Rattle.judgement.proofs.SameLayout.{SameFacts, same_fact, same_irb_figures}

-- ---- the words of the filled sheet

module _ (n : ℕ) (s : List ℕ) (c : CanFill n s) where
  abbrev f : List ℕ
  f = filled n s

  abbrev d : ℕ
  d = n - word s 0

  abbrev facts : List ℕ
  facts = take (word s 0) (drop 1 s)

  abbrev zeros : List ℕ
  zeros = replicate d 0

  abbrev rest : List ℕ
  rest = drop (pool_at s) s

  facts_length : length facts ≡ word s 0
  unfolding pool_at
  facts_length = length-take-le (word s 0) (drop 1 s) (omega (arith, length-drop 1 s, c.there))

  zeros_length : length zeros ≡ d
  zeros_length = length-replicate {A = ℕ} d 0

  pub filled_length : length f ≡ length s + d
  unfolding filled pool_at
  filled_length =
      omega (
        arith,
        c.there,
        length-append facts (zeros ++ rest),
        length-append zeros rest,
        facts_length,
        zeros_length,
        length-drop (pool_at s) s,
      )

  pub count_filled : word f 0 ≡ n
  unfolding filled
  count_filled = refl

  pool_after : pool_at s ≡ suc (word s 0)
  unfolding pool_at
  pool_after = omega arith

  -- past the count, and past the facts
  past_count : (p : ℕ) → word f (suc p) ≡ get_or (facts ++ (zeros ++ rest)) p 0
  unfolding filled
  past_count p = refl

  past_facts : (j : ℕ) → word f (suc (length facts + j)) ≡ get_or (zeros ++ rest) j 0
  past_facts j = past_count (length facts + j) ∙ get_or-append-add facts (zeros ++ rest) j 0

  fact_kept : (p : ℕ) → 1 ≤ p → p < pool_at s → word f p ≡ word s p
  fact_kept zero least before = absurd (omega arith)
  fact_kept (suc p) least before =
      let within : p < word s 0 = omega (arith, pool_after) in
      let back : 1 + p ≡ suc p = omega arith in
      past_count p ∙
      get_or-append facts (zeros ++ rest) 0 p (omega (arith, facts_length)) ∙
      get_or-take (word s 0) (drop 1 s) p 0 within ∙
      get_or-drop 1 s p 0 ∙
      ap (word s) back

  zero_filled : (p : ℕ) → pool_at s ≤ p → p < pool_at s + d → word f p ≡ 0
  zero_filled p after before =
      let j = p - pool_at s in
      let place : p ≡ suc (length facts + j) = omega (arith, facts_length, pool_after) in
      ap (word f) place ∙
      past_facts j ∙
      get_or-append zeros rest 0 j (omega (arith, zeros_length)) ∙
      get_or-replicate {A = ℕ} d j 0 0 (omega arith)

  pub rest_kept : (p : ℕ) → pool_at s ≤ p → word f (p + d) ≡ word s p
  rest_kept p after =
      let j = p - pool_at s in
      let place : p + d ≡ suc (length facts + (length zeros + j)) = omega (arith, facts_length, zeros_length, pool_after) in
      let back : pool_at s + j ≡ p = omega arith in
      ap (word f) place ∙
      past_facts (length zeros + j) ∙
      get_or-append-add zeros rest j 0 ∙
      get_or-drop (pool_at s) s j 0 ∙
      ap (word s) back

  -- ---- its places

  pub pool_moved : pool_at f ≡ pool_at s + d
  unfolding pool_at
  pool_moved = omega (arith, count_filled, c.most)

  pub same_rows : rows f ≡ rows s
  unfolding rows
  same_rows = ap (word f) pool_moved ∙ rest_kept (pool_at s) (le_refl _)

  pub tranches_moved : tranches_at f ≡ tranches_at s + d
  tranches_moved = omega (arith, tranches_at_past_rows f, tranches_at_past_rows s, pool_moved, same_rows)

  pub same_tranche_count : tranche_count f ≡ tranche_count s
  unfolding tranche_count
  same_tranche_count = ap (word f) tranches_moved ∙ rest_kept (tranches_at s) (omega (arith, tranches_at_past_rows s))

  irb_moved : irb_at f ≡ irb_at s + d
  irb_moved = omega (arith, irb_at_past_tranches f, irb_at_past_tranches s, tranches_moved, same_tranche_count)

  pub tranche_at_moved : (i : ℕ) → tranche_at f i ≡ tranche_at s i + d
  tranche_at_moved i = omega (arith, tranches_moved)

  pub same_row_word : (i k : ℕ) → word f (row_at f i + k) ≡ word s (row_at s i + k)
  same_row_word i k =
      let place : row_at f i + k ≡ row_at s i + k + d = omega (arith, pool_moved) in
      ap (word f) place ∙ rest_kept (row_at s i + k) (omega arith)

  pub same_tranche_word : (i k : ℕ) → word f (tranche_at f i + k) ≡ word s (tranche_at s i + k)
  same_tranche_word i k =
      let place : tranche_at f i + k ≡ tranche_at s i + k + d = omega (arith, tranches_moved) in
      ap (word f) place ∙ rest_kept (tranche_at s i + k) (omega (arith, tranches_at_past_rows s))

  same_irb_word : (k : ℕ) → word f (irb_place f k) ≡ word s (irb_place s k)
  same_irb_word k =
      let place : irb_place f k ≡ irb_place s k + d = omega (arith, irb_moved) in
      ap (word f) place ∙ rest_kept (irb_place s k) (omega (arith, irb_at_past_tranches s, tranches_at_past_rows s))

  -- ---- its facts

  pub same_known_fact : (p : ℕ) → 1 ≤ p → p ≤ facts_least → word f p ≡ word s p
  unfolding pool_at
  same_known_fact p least most = fact_kept p least (omega (arith, c.least))

  pub same_later_fact : (p : ℕ) → 1 ≤ p → fact f p ≡ fact s p
  unfolding pool_at
  same_later_fact p least =
      same_fact s f p (omega (arith, count_filled, c.most)) (λ h. fact_kept p least (omega arith))
      (λ past within. zero_filled p (omega arith) (omega (arith, count_filled)))

  pub filled_same_kind : pool_kind f ≡ pool_kind s
  filled_same_kind = same_known_fact 1 (omega arith) (omega arith)

  pub filled_same_facts : SameFacts s f
  filled_same_facts = record {
    same_resecuritisation = rw (same_known_fact 2 (omega arith) (omega arith));
    same_stc = rw (same_later_fact 5 (omega arith));
    same_diligence = rw (same_known_fact 3 (omega arith) (omega arith));
    same_composition = rw (same_known_fact 4 (omega arith) (omega arith));
  }

  pub filled_same_date : reporting_date f ≡ reporting_date s
  filled_same_date = same_later_fact 6 (omega arith)

  pub filled_same_unit : in_hundredths f ≡ in_hundredths s
  filled_same_unit = rw (same_later_fact 7 (omega arith))

  -- ---- its IRB section

  pub filled_same_irb : irb_figures f ≡ irb_figures s
  filled_same_irb = same_irb_figures s f filled_same_kind (λ k column. same_irb_word k)

  needed_moved : needed f ≡ needed s + d
  needed_moved =
      let words : irb_words f ≡ irb_words s = rw filled_same_kind in
      omega (arith, needed_is f, needed_is s, irb_moved, words)

  -- ---- the faults of its words: a count is good, a fact keeps its fault, a zero has none, and a later word keeps its fault where it has moved

  fault_of_count : (fault f 0 ≡ 0) × (fault s 0 ≡ 0)
  fault_of_count = (
    fault_of_fact_count f ∙ simp (count_filled, within_is facts_least facts_most n (omega (arith, c.least, c.most)) c.limit),
    fault_of_fact_count s ∙ simp (within_is facts_least facts_most (word s 0) c.least (omega (arith, c.most, c.limit))),
  )

  fault_of_kept : (p : ℕ) → p < pool_at s → fault f p ≡ fault s p
  fault_of_kept zero before = fault_of_count.0 ∙ sym fault_of_count.1
  fault_of_kept (suc p) before =
      fault_of_fact f (suc p) (omega arith) (omega (arith, pool_moved)) ∙
      rw (filled_same_facts.same_resecuritisation, fact_kept (suc p) (omega arith) before)
      (sym (fault_of_fact s (suc p) (omega arith) before))

  fault_of_zero : (p : ℕ) → pool_at s ≤ p → p < pool_at s + d → fault f p ≡ 0
  fault_of_zero p after before =
      let least : 1 ≤ p = omega (arith, pool_after) in
      fault_of_fact f p least (omega (arith, pool_moved)) ∙
      rw (zero_filled p after before)
      (fact_good (resecuritisation f) p 0 least (record { pool_kind_good = λ _. omega arith; code = λ _ _. omega arith; mark = λ _ _. refl; reporting_date_good = λ _. inl refl }))

  -- a word that has moved with its section is as far behind the count as before, so its row and its column are the same
  pub same_distance : (at p : ℕ) → p + d - (at + d + 1) ≡ p - (at + 1)
  same_distance at p = omega arith

  same_amount : (i : ℕ) → amount f i ≡ amount s i
  same_amount i = simp add-zero at (same_tranche_word i 0)

  fault_of_later : (p : ℕ) → pool_at s ≤ p → fault f (p + d) ≡ fault s p
  unfolding fault
  fault_of_later p after =
      let i = row_of 7 (tranches_at s) p in
      let before = rw tranches_moved at (same_tranche_word (i - 1) 1) in
      let whole = rw tranches_moved at (same_amount i) in
      simp (
        ne_eqb (p + d) 0 (λ e. omega (arith, pool_after)),
        ne_eqb p 0 (λ e. omega (arith, pool_after)),
        pool_moved,
        tranches_moved,
        same_ltb d p (pool_at s),
        le-ltb p (pool_at s) after,
        same_eqb d p (pool_at s),
        same_ltb d p (tranches_at s),
        same_eqb d p (tranches_at s),
        irb_moved,
        same_ltb d p (irb_at s),
        same_eqb d p (irb_at s),
        same_distance (irb_at s) p,
        filled_same_kind,
        filled_same_facts.same_resecuritisation,
        filled_same_date,
        filled_same_unit,
        same_distance (pool_at s) p,
        same_distance (tranches_at s) p,
        before,
        whole,
        rest_kept p after,
      )

  -- ---- the verdict on its words

  pub kept_place : (p : ℕ) → p < pool_at s → p ≡ moved n s p
  kept_place p before = simp (lt-ltb p (pool_at s) before)

  pub later_place : (p : ℕ) → pool_at s ≤ p → p + d ≡ moved n s p
  later_place p after = simp (le-ltb p (pool_at s) after)

  length_moved : length f ≡ moved n s (length s)
  length_moved = filled_length ∙ later_place (length s) c.there

  judge_kept : (p : ℕ) → p < pool_at s → judge f p ≡ at_moved (moved n s) (judge s p)
  unfolding judge
  judge_kept p before =
      ap (judge_with (length f) p) (fault_of_kept p before) ∙
      judge_with_moved (moved n s) (length s) p (fault s p) (length f) p
      (lt-ltb p (length f) (omega (arith, filled_length, c.there)) ∙ sym (lt-ltb p (length s) (omega (arith, c.there))))
      (kept_place p before) length_moved

  judge_zero : (p : ℕ) → pool_at s ≤ p → p < pool_at s + d → judge f p ≡ Sound
  unfolding judge
  judge_zero p after before =
      simp (fault_of_zero p after before, lt-ltb p (length f) (omega (arith, filled_length, c.there)))

  judge_later : (p : ℕ) → pool_at s ≤ p → judge f (p + d) ≡ at_moved (moved n s) (judge s p)
  unfolding judge
  judge_later p after =
      ap (judge_with (length f) (p + d)) (fault_of_later p after) ∙
      judge_with_moved (moved n s) (length s) p (fault s p) (length f) (p + d)
      (ap (ltb (p + d)) filled_length ∙ same_ltb d p (length s))
      (later_place p after) length_moved

  judged_moved : judged f (needed f) ≡ at_moved (moved n s) (judged s (needed s))
  judged_moved =
      let k = needed s - pool_at s in
      let ours : needed s ≡ pool_at s + k = omega (arith, pool_count_needed s) in
      let theirs : needed f ≡ pool_at s + k + d = omega (arith, needed_moved) in
      let start : first_of (judge f) (pool_at s + d) ≡ at_moved (moved n s) (first_of (judge s) (pool_at s)) =
      first_of_some_more (judge f) (pool_at s) d judge_zero ∙ first_of_moved (moved n s) (judge s) (judge f) (pool_at s) judge_kept in
      rw (ours, theirs) (first_of_shifted (moved n s) (judge s) (judge f) (pool_at s) d k start judge_later)

  follow_moved : words_follow f ≡ at_moved (moved n s) (words_follow s)
  follow_moved =
      rw (needed_moved, filled_length, same_ltb d (needed s) (length s))
      (moved_cond (moved n s) (ltb (needed s) (length s)) (refused 3 (needed s)) Sound (refused 3 (needed s + d)) Sound
      (ap (refused 3) (later_place (needed s) (omega (arith, pool_count_needed s)))) refl)

  pub words_moved : words_verdict f ≡ at_moved (moved n s) (words_verdict s)
  unfolding words_verdict
  words_moved = rw (judged_moved, follow_moved) (moved_or_else (moved n s) (judged s (needed s)) (words_follow s))

-- ---- a list of facts that is as long already stays as it is

pub filled_already : (s : List ℕ) → 0 < length s → filled (word s 0) s ≡ s
unfolding filled pool_at
filled_already [] some = absurd (omega arith)
filled_already (w ∷ ws) some =
    let none : w - w ≡ 0 = omega arith in
    let past : 1 + w ≡ suc w = omega arith in
    rw (none, past) (ap (λ (l : List ℕ). w ∷ l) (take-append-drop w ws))
