-- The words of a rewritten sheet, by their places in the given one: how many there are, the facts, and what stands past them. No axioms.
use mathlib.Core.Bool.{Bool, true, false, cond, ◌&&◌}
use mathlib.Core.List.{List, [], ◌∷◌}
use mathlib.Core.Path.{◌≡◌, refl, sym, ap, ◌∙◌}
use Prim.Native.Nat.{ℕ, zero, suc, ◌+◌, ◌*◌, ◌-◌, ◌≤◌, ◌<◌}
use native.Mathlib.Nat.{add-zero, not-suc-le-zero, le_of_suc-le-suc}
use native.Mathlib.Omega.{arith}
use lib.Dec.{ltb, leb, eqb}
use lib.ListN.{length, get_or}
use borrow.Author.Tests.{ltb-true, eqb-true, lt-ltb, le-leb, ne_eqb}
use Rattle.numbers.proofs.Tests.{both_true, same_ltb}
use Rattle.limits.specs.SheetSize.{facts_most}
use Rattle.judgement.specs.DealSheet.{word, fact, unit_at, in_hundredths, pool_at, rows, weight_at, weight_word, weight_unit, tranches_at, needed}
use Rattle.judgement.specs.FilledFacts.{CanFill}
use Rattle.judgement.specs.Refusals.{column_of, judged}
use Rattle.judgement.specs.Verdicts.{Sound}
use Rattle.judgement.proofs.FilledFacts.{filled_length, count_filled, pool_moved, tranches_moved, same_later_fact, same_distance, rest_kept, filled_same_unit}
use Rattle.judgement.proofs.Judgement.{in_section}
use Rattle.judgement.proofs.NeededLaws.{tranches_at_past_rows}
use Rattle.judgement.proofs.SheetLimits.{facts_within, facts_counted, fact_there, risk_weight_most}
use Rattle.conversion.specs.RewrittenSheet.{all_facts, other_unit, other_weight, is_weight_place, rewritten_word, each_word, in_other_unit, rewritten}

-- ---- every word by its place

pub length_each : (f : ℕ → ℕ → ℕ) (p : ℕ) (ws : List ℕ) → length (each_word f p ws) ≡ length ws
unfolding each_word
length_each f p [] = refl
length_each f p (w ∷ ws) = ap suc (length_each f (suc p) ws)

pub each_at : (f : ℕ → ℕ → ℕ) (p : ℕ) (ws : List ℕ) (i : ℕ) → i < length ws → get_or (each_word f p ws) i 0 ≡ f (p + i) (get_or ws i 0)
unfolding each_word
each_at f p [] i l = absurd (not-suc-le-zero l)
each_at f p (w ∷ ws) zero l = rw (add-zero p)
each_at f p (w ∷ ws) (suc i) l =
    let next : suc p + i ≡ p + suc i = omega arith in
    each_at f (suc p) ws i (le_of_suc-le-suc l) ∙ rw next

pub other_unit_at : (t : List ℕ) (p : ℕ) → p < length t → word (in_other_unit t) p ≡ rewritten_word t p (word t p)
other_unit_at t p l = each_at (rewritten_word t) 0 t p l ∙ rw (let none : 0 + p ≡ p = omega arith in none)

-- ---- where a risk weight stands

pub weight_place : (s : List ℕ) (i : ℕ) → i < rows s → is_weight_place s (weight_at s i) ≡ true
weight_place s i row =
    let column : column_of 4 (pool_at s) (weight_at s i) ≡ 2 = omega arith in
    simp (
      lt-ltb (pool_at s) (weight_at s i) (omega arith),
      lt-ltb (weight_at s i) (tranches_at s) (omega (arith, tranches_at_past_rows s)),
      column,
    )

-- one that stands at place p is that of a row
pub record WeightOf (s : List ℕ) (p : ℕ) : Type 0 where
  pub row : ℕ
  pub among : row < rows s
  pub place : p ≡ weight_at s row

pub weight_of : (s : List ℕ) (p : ℕ) → is_weight_place s p ≡ true → WeightOf s p
weight_of s p is =
    let both = both_true (ltb (pool_at s) p && ltb p (tranches_at s)) (eqb (column_of 4 (pool_at s) p) 2) is in
    let inside = both_true (ltb (pool_at s) p) (ltb p (tranches_at s)) both.0 in
    let after = ltb-true (pool_at s) p inside.0 in
    let before = ltb-true p (tranches_at s) inside.1 in
    let at = in_section 4 (pool_at s) (rows s) p (omega arith) after (omega (arith, tranches_at_past_rows s)) in
    let column = eqb-true (column_of 4 (pool_at s) p) 2 both.1 in
    record { row = at.i; among = at.row; place = omega (arith, at.place, at.column, column) }

-- its word is at most 1250% in hundredths, whatever the unit
unit_at_least_one : (hundredths : Bool) (w : ℕ) → weight_unit hundredths * w ≤ 125000 → w ≤ 125000
unit_at_least_one true w most = omega arith
unit_at_least_one false w most = omega arith

pub weight_word_most : (s : List ℕ) (p : ℕ) → judged s (needed s) ≡ Sound → is_weight_place s p ≡ true → word s p ≤ 125000
weight_word_most s p good is =
    let w = weight_of s p is in
    rw w.place (unit_at_least_one (in_hundredths s) (weight_word s w.row) (risk_weight_most s w.row good w.among))

pub not_weight : (s : List ℕ) (p : ℕ) → ((i : ℕ) → i < rows s → p ≡ weight_at s i → ⊥) → is_weight_place s p ≡ false
not_weight s p other = by_test (is_weight_place s p) refl
  where
    by_test : (b : Bool) → is_weight_place s p ≡ b → is_weight_place s p ≡ false
    by_test true is = let w = weight_of s p is in absurd (other w.row w.among w.place)
    by_test false is = is

-- ---- the rewritten sheet of one whose words are good

module _ (s : List ℕ) (good : judged s (needed s) ≡ Sound) where
  abbrev f : List ℕ
  f = all_facts s

  abbrev d : ℕ
  d = facts_most - word s 0

  facts : (4 ≤ word s 0) × (word s 0 ≤ facts_most)
  facts = facts_within s (facts_counted s good)

  pub can_fill : CanFill facts_most s
  can_fill = record {
    least = facts.0;
    most = facts.1;
    limit = omega arith;
    there = omega (arith, fact_there s (pool_at s) good (omega arith));
  }

  -- "its answer counts the words written"
  pub rewritten_length_lem : length (rewritten s) ≡ length s + d
  unfolding rewritten
  rewritten_length_lem = length_each (rewritten_word f) 0 f ∙ filled_length facts_most s can_fill

  -- place 8 is past the facts
  pub pool_at_eight : pool_at s + d ≡ 8
  unfolding pool_at
  pool_at_eight = omega (arith, facts)

  rewritten_at : (p : ℕ) → p < length s + d → word (rewritten s) p ≡ rewritten_word f p (word f p)
  unfolding rewritten
  rewritten_at p l = other_unit_at f p (omega (arith, filled_length facts_most s can_fill))

  -- no weight stands among the facts
  before_pool : (p : ℕ) → p ≤ unit_at → is_weight_place f p ≡ false
  before_pool p l = not_weight f p (λ i row e. omega (arith, pool_moved facts_most s can_fill, pool_at_eight))

  long_enough : 8 < length s + d
  long_enough = omega (arith, pool_at_eight, fact_there s (pool_at s) good (omega arith))

  -- ---- by place

  pub first_rewritten : word (rewritten s) 0 ≡ facts_most
  first_rewritten = rewritten_at 0 (omega (arith, long_enough)) ∙ simp (before_pool 0 (omega arith), count_filled facts_most s can_fill)

  pub fact_rewritten : (p : ℕ) → 1 ≤ p → p < unit_at → word (rewritten s) p ≡ fact s p
  fact_rewritten p least most =
      let has : leb p (word f 0) ≡ true = le-leb p (word f 0) (omega (arith, count_filled facts_most s can_fill)) in
      rewritten_at p (omega (arith, long_enough)) ∙
      simp (ne_eqb p unit_at (λ e. omega arith), before_pool p (omega arith)) (sym (simp has) ∙ same_later_fact facts_most s can_fill p least)

  pub unit_rewritten : word (rewritten s) unit_at ≡ other_unit (in_hundredths s)
  unit_rewritten = rewritten_at unit_at (omega (arith, long_enough)) ∙ simp (filled_same_unit facts_most s can_fill)

  -- a weight has moved with its section
  weight_moved : (p : ℕ) → is_weight_place f (p + d) ≡ is_weight_place s p
  weight_moved p =
      rw (
        pool_moved facts_most s can_fill,
        tranches_moved facts_most s can_fill,
        same_ltb d (pool_at s) p,
        same_ltb d p (tranches_at s),
        same_distance facts_most s can_fill (pool_at s) p,
      )

  pub rest_rewritten :
      (p : ℕ) → pool_at s ≤ p → p < length s →
      word (rewritten s) (p + d) ≡ cond (is_weight_place s p) (other_weight (in_hundredths s) (word s p)) (word s p)
  rest_rewritten p after before =
      rewritten_at (p + d) (omega arith) ∙
      simp (
        ne_eqb (p + d) unit_at (λ e. omega (arith, pool_at_eight)),
        weight_moved p,
        filled_same_unit facts_most s can_fill,
        rest_kept facts_most s can_fill p after,
      )

  -- a place past the facts, by the place that its word has in the given sheet
  module _ (p : ℕ) (after : unit_at < p) (among : p < length (rewritten s)) where
    abbrev from : ℕ
    from = p - d

    pub from_within : (pool_at s ≤ from) × ((from < length s) × (d ≤ p))
    from_within =
        (omega (arith, pool_at_eight), (omega (arith, pool_at_eight, rewritten_length_lem, facts), omega (arith, facts)))

    pub past_facts : word (rewritten s) p ≡ cond (is_weight_place s from) (other_weight (in_hundredths s) (word s from)) (word s from)
    past_facts =
        let back : p ≡ from + d = omega (arith, from_within) in
        ap (word (rewritten s)) back ∙ rest_rewritten from from_within.0 from_within.1.0
