-- What a sound beginning of a sheet says of its numbers: the counts, the place of each section, and the limits of every row's words. No axioms.
use mathlib.Core.Bool.{Bool, true, false, cond}
use mathlib.Core.List.{List}
use mathlib.Core.Logic.{⊎_elim}
use mathlib.Core.Path.{◌≡◌, refl, sym, ◌∙◌}
use Prim.Native.Nat.{ℕ, zero, suc, ◌+◌, ◌*◌, ◌-◌, ◌≤◌, ◌<◌}
use native.Mathlib.Nat.{add-zero}
use native.Mathlib.Numerals.{add-one}
use native.Mathlib.Omega.{arith}
use lib.ListN.{length}
use borrow.Author.Tests.{leb-true, eqb-true, lt-leb}
use Rattle.limits.specs.SheetSize.{facts_least, facts_most, rows_most, tranches_most, irb_rows, word_limit, place_limit}
use Rattle.faults.specs.WordFaults.{row_fault, tranche_fault, irb_fault}
use Rattle.faults.specs.GoodWords.{GoodFact, NextClass, GoodClass}
use Rattle.faults.proofs.FaultLaws.{no_fault_within}
use Rattle.faults.proofs.GoodWordsLaw.{good_fact, good_row as row-of-words, good_class, good_tranche as tranche-of-words, good_irb as irb-of-words}
use Rattle.judgement.specs.DealSheet.{word, pool_kind, resecuritisation, has_fact, fact, stc, reporting_date, in_hundredths, pool_at, rows, row_at, exposure, nominal, weight_word, weight_unit, risk_weight, status, tranches_at, tranche_count, tranche_at, amount, class, maturity, held, first_rating, second_rating, third_rating, has_irb, irb_at, irb_place, irb_figures, needed}
use Rattle.judgement.specs.Refusals.{judge, judged}
use Rattle.judgement.specs.GoodSheet.{GoodRowOf, GoodTrancheOf, GoodIrbOf}
use Rattle.judgement.specs.Verdicts.{Sound}
use Rattle.judgement.proofs.FirstFault.{first_of_prefix}
use Rattle.judgement.proofs.NeededLaws.{tranches_at_past_rows, irb_at_past_tranches, needed_is, irb_words_most, irb_word_needed, irb_count_needed, tranche_word_needed, tranche_count_needed, row_word_needed, pool_count_needed}
use Rattle.judgement.proofs.Judgement.{good_word, fault_of_fact_count, fault_of_fact, fault_of_pool_count, fault_of_row, fault_of_tranche_count, fault_of_tranche, fault_of_irb_count, fault_of_irb}

-- ---- the counts, and where the sections stand

pub facts_within : (s : List ℕ) → judged s 1 ≡ Sound → (facts_least ≤ word s 0) × (word s 0 ≤ facts_most)
facts_within s e =
    no_fault_within 2 facts_least facts_most (word s 0) (omega arith) (sym (fault_of_fact_count s) ∙ (good_word s 1 0 e (omega arith)).1)

pub pool_at_within : (s : List ℕ) → judged s 1 ≡ Sound → (facts_least < pool_at s) × (pool_at s ≤ facts_most + 1)
unfolding pool_at
pool_at_within s e = (omega (arith, facts_within s e), omega (arith, facts_within s e))

pub accepted_to : (s : List ℕ) (k : ℕ) → k ≤ needed s → judged s (needed s) ≡ Sound → judged s k ≡ Sound
accepted_to s k h e = first_of_prefix (judge s) k (needed s) h e

pub facts_counted : (s : List ℕ) → judged s (needed s) ≡ Sound → judged s 1 ≡ Sound
facts_counted s e = accepted_to s 1 (omega (arith, pool_count_needed s)) e

pub pool_counted : (s : List ℕ) → judged s (needed s) ≡ Sound → judged s (pool_at s + 1) ≡ Sound
pool_counted s e = accepted_to s (pool_at s + 1) (pool_count_needed s) e

pub tranches_counted : (s : List ℕ) → judged s (needed s) ≡ Sound → judged s (tranches_at s + 1) ≡ Sound
tranches_counted s e = accepted_to s (tranches_at s + 1) (tranche_count_needed s) e

pub rows_within : (s : List ℕ) → judged s (pool_at s + 1) ≡ Sound → (1 ≤ rows s) × (rows s ≤ rows_most)
rows_within s e =
    no_fault_within 2 1 rows_most (rows s) (omega arith)
    (sym (fault_of_pool_count s) ∙ (good_word s (pool_at s + 1) (pool_at s) e (omega arith)).1)

pub tranches_within : (s : List ℕ) → judged s (tranches_at s + 1) ≡ Sound → (1 ≤ tranche_count s) × (tranche_count s ≤ tranches_most)
tranches_within s e =
    no_fault_within 2 1 tranches_most (tranche_count s) (omega arith)
    (sym (fault_of_tranche_count s) ∙ (good_word s (tranches_at s + 1) (tranches_at s) e (omega arith)).1)

-- a sound beginning up to a later count is one up to an earlier count

pub facts_counted_before : (s : List ℕ) → judged s (pool_at s + 1) ≡ Sound → judged s 1 ≡ Sound
facts_counted_before s e = first_of_prefix (judge s) 1 (pool_at s + 1) (omega arith) e

pub pool_counted_before : (s : List ℕ) → judged s (tranches_at s + 1) ≡ Sound → judged s (pool_at s + 1) ≡ Sound
pool_counted_before s e =
    first_of_prefix (judge s) (pool_at s + 1) (tranches_at s + 1) (omega (arith, tranches_at_past_rows s)) e

-- how far down a sheet a section's places go: one loose bound for all, so that nothing that is worked out of a place overflows

pub row_at_most : (s : List ℕ) (i : ℕ) → judged s (pool_at s + 1) ≡ Sound → i ≤ rows s → row_at s i ≤ place_limit
row_at_most s i e h = omega (arith, pool_at_within s (facts_counted_before s e), rows_within s e)

pub tranches_at_most : (s : List ℕ) → judged s (pool_at s + 1) ≡ Sound → tranches_at s ≤ place_limit
tranches_at_most s e = omega (arith, tranches_at_past_rows s, row_at_most s (rows s) e (omega arith))

pub tranche_at_most :
    (s : List ℕ) (i : ℕ) → judged s (tranches_at s + 1) ≡ Sound → i ≤ tranche_count s → tranche_at s i ≤ place_limit
tranche_at_most s i e h =
    let pool = pool_counted_before s e in
    omega (arith, tranches_at_past_rows s, pool_at_within s (facts_counted_before s pool), rows_within s pool, tranches_within s e)

pub irb_at_most : (s : List ℕ) → judged s (tranches_at s + 1) ≡ Sound → irb_at s ≤ place_limit
irb_at_most s e = omega (arith, irb_at_past_tranches s, tranche_at_most s (tranche_count s) e (omega arith))

-- no sheet with good words needs more than the most words
pub needed_at_most : (s : List ℕ) → judged s (needed s) ≡ Sound → needed s ≤ word_limit
needed_at_most s e =
    omega (
      arith,
      needed_is s,
      irb_words_most s,
      irb_at_past_tranches s,
      tranches_at_past_rows s,
      pool_at_within s (facts_counted s e),
      rows_within s (pool_counted s e),
      tranches_within s (tranches_counted s e),
    )

-- ---- the facts

pub good_fact_of : (s : List ℕ) (p : ℕ) → judged s (needed s) ≡ Sound → 1 ≤ p → p < pool_at s → GoodFact (resecuritisation s) p (word s p)
good_fact_of s p e least before =
    good_fact (resecuritisation s) p (word s p) (sym (fault_of_fact s p least before) ∙ (good_word s (needed s) p e (omega (arith, pool_count_needed s))).1)

-- "a sheet with four facts counts as 0"; "0 or absent means months as before."
pub short_list : (s : List ℕ) (n : ℕ) → word s 0 < n → fact s n ≡ 0
short_list s n past = simp (lt-leb n (word s 0) past)

pub four_facts : (s : List ℕ) → word s 0 ≡ 4 → stc s ≡ false
four_facts s four = simp (short_list s 5 (omega arith))

-- a mark is the fifth fact, a 1
mark_there : (counted : Bool) (w : ℕ) → cond counted w 0 ≡ 1 → (counted ≡ true) × (w ≡ 1)
mark_there true w e = (refl, e)
mark_there false w e = absurd (omega arith)

-- no sheet with good words has an STC mark on a re-securitisation
pub stc_ordinary : (s : List ℕ) → judged s (needed s) ≡ Sound → stc s ≡ true → resecuritisation s ≡ false
unfolding pool_at
stc_ordinary s e marked = by_kind (resecuritisation s) refl
  where
    mark : (has_fact s 5 ≡ true) × (word s 5 ≡ 1)
    mark = mark_there (has_fact s 5) (word s 5) (eqb-true (fact s 5) 1 marked)

    by_kind : (resecuritised : Bool) → resecuritisation s ≡ resecuritised → resecuritisation s ≡ false
    by_kind true is =
        let none = (good_fact_of s 5 e (omega arith) (omega (arith, leb-true 5 (word s 0) mark.0))).mark refl is in
        absurd (omega (arith, mark.1))
    by_kind false is = is

-- ---- the pool's rows

good_in_row :
    (s : List ℕ) (i c : ℕ) → judged s (needed s) ≡ Sound → i < rows s → c < 4 →
    row_fault (resecuritisation s) (in_hundredths s) c (word s (row_at s i + c)) ≡ 0
good_in_row s i c e row column =
    sym (fault_of_row s i c row column) ∙
    (good_word s (needed s) (row_at s i + c) e (row_word_needed s i c row column)).1

pub good_row : (s : List ℕ) (i : ℕ) → judged s (needed s) ≡ Sound → i < rows s → GoodRowOf s i
good_row s i e row =
    row-of-words (resecuritisation s) (in_hundredths s) (exposure s i) (nominal s i) (weight_word s i) (status s i)
    (rw (add-zero (row_at s i)) at (good_in_row s i 0 e row (omega arith)))
    (good_in_row s i 1 e row (omega arith))
    (good_in_row s i 2 e row (omega arith))
    (good_in_row s i 3 e row (omega arith))

-- 02, S-9: what a risk weight is in hundredths of a percent, by the unit of its word
pub weight_in_percent : (s : List ℕ) (i : ℕ) → in_hundredths s ≡ false → risk_weight s i ≡ 100 * weight_word s i
weight_in_percent s i percent = rw percent (omega arith)

pub weight_in_hundredths : (s : List ℕ) (i : ℕ) → in_hundredths s ≡ true → risk_weight s i ≡ weight_word s i
weight_in_hundredths s i fine = rw fine (omega arith)

-- no risk weight is above 1250%, whatever the unit of its word
weight_at_most :
    (hundredths : Bool) (w : ℕ) → (hundredths ≡ false → w ≤ 1250) → (hundredths ≡ true → w ≤ 125000) → weight_unit hundredths * w ≤ 125000
weight_at_most true w percent fine = omega (arith, fine refl)
weight_at_most false w percent fine = omega (arith, percent refl)

pub risk_weight_most : (s : List ℕ) (i : ℕ) → judged s (needed s) ≡ Sound → i < rows s → risk_weight s i ≤ 125000
risk_weight_most s i e row =
    let g = good_row s i e row in
    weight_at_most (in_hundredths s) (weight_word s i) g.weight_percent g.weight_hundredths

-- ---- the tranches

good_in_tranche :
    (s : List ℕ) (i c : ℕ) → judged s (needed s) ≡ Sound → i < tranche_count s → c < 7 →
    tranche_fault (reporting_date s) i (class s (i - 1)) (amount s i) c (word s (tranche_at s i + c)) ≡ 0
good_in_tranche s i c e row column =
    sym (fault_of_tranche s i c row column) ∙ (good_word s (needed s) (tranche_at s i + c) e (tranche_word_needed s i c row column)).1

pub good_class_of :
    (s : List ℕ) (i : ℕ) → judged s (needed s) ≡ Sound → i < tranche_count s → GoodClass i (class s (i - 1)) (class s i)
good_class_of s i e row = good_class (reporting_date s) i (class s (i - 1)) (amount s i) (class s i) (good_in_tranche s i 1 e row (omega arith))

-- "The first row has class 1"
pub first_class : (s : List ℕ) → judged s (needed s) ≡ Sound → class s 0 ≡ 1
first_class s e = (good_class_of s 0 e (omega (arith, tranches_within s (tranches_counted s e)))).of_first refl

-- "each next row has the class before it or one more"
pub next_class :
    (s : List ℕ) (i : ℕ) → judged s (needed s) ≡ Sound → i + 1 < tranche_count s → NextClass (class s i) (class s (i + 1))
next_class s i e row =
    let back : i + 1 - 1 ≡ i = omega arith in
    rw back at ((good_class_of s (i + 1) e row).of_next (omega arith))

pub next_class_within :
    (s : List ℕ) (i : ℕ) → judged s (needed s) ≡ Sound → i + 1 < tranche_count s →
    (class s i ≤ class s (i + 1)) × (class s (i + 1) ≤ class s i + 1)
next_class_within s i e row =
    ⊎_elim (λ same. (omega arith, omega arith)) (λ more. (omega arith, omega arith)) (next_class s i e row)

pub class_within :
    (s : List ℕ) (i : ℕ) → judged s (needed s) ≡ Sound → i < tranche_count s → (1 ≤ class s i) × (class s i ≤ i + 1)
class_within s zero e row = (omega (arith, first_class s e), omega (arith, first_class s e))
class_within s (suc i) e row =
    let before = class_within s i e (omega arith) in
    let next = rw (add-one i) at (next_class_within s i e (omega arith)) in
    (omega arith, omega arith)

pub good_tranche : (s : List ℕ) (i : ℕ) → judged s (needed s) ≡ Sound → i < tranche_count s → GoodTrancheOf s i
good_tranche s i e row =
    tranche-of-words (reporting_date s) i (class s (i - 1)) (amount s i) (maturity s i) (held s i) (first_rating s i) (second_rating s i) (third_rating s i)
    (rw (add-zero (tranche_at s i)) at (good_in_tranche s i 0 e row (omega arith)))
    (good_in_tranche s i 2 e row (omega arith))
    (good_in_tranche s i 3 e row (omega arith))
    (good_in_tranche s i 4 e row (omega arith))
    (good_in_tranche s i 5 e row (omega arith))
    (good_in_tranche s i 6 e row (omega arith))

-- ---- the IRB section

pub irb_counted : (s : List ℕ) → judged s (needed s) ≡ Sound → has_irb s ≡ true → word s (irb_at s) ≡ irb_rows
irb_counted s e has =
    let both =
    no_fault_within 2 irb_rows irb_rows (word s (irb_at s)) (omega arith)
    (sym (fault_of_irb_count s) ∙ (good_word s (needed s) (irb_at s) e (irb_count_needed s has)).1) in
    omega arith

good_in_irb : (s : List ℕ) (c : ℕ) → judged s (needed s) ≡ Sound → has_irb s ≡ true → c < 6 → irb_fault (pool_kind s) c (word s (irb_place s c)) ≡ 0
good_in_irb s c e has column = sym (fault_of_irb s c column) ∙ (good_word s (needed s) (irb_place s c) e (irb_word_needed s c has column)).1

pub good_irb : (s : List ℕ) → judged s (needed s) ≡ Sound → has_irb s ≡ true → GoodIrbOf s
good_irb s e has =
    irb-of-words (pool_kind s) _ _ _ _ _ _
    (good_in_irb s 0 e has (omega arith))
    (good_in_irb s 1 e has (omega arith))
    (good_in_irb s 2 e has (omega arith))
    (good_in_irb s 3 e has (omega arith))
    (good_in_irb s 4 e has (omega arith))
    (good_in_irb s 5 e has (omega arith))

-- the figures that are read of the section: zeros, or its words
pub irb_figures_within :
    (s : List ℕ) → judged s (needed s) ≡ Sound →
    ((irb_figures s).share ≤ 1000000) × (((irb_figures s).charge ≤ 1000000) × ((irb_figures s).average ≤ 125000))
unfolding irb_figures
irb_figures_within s e = by_kind (has_irb s) refl
  where
    by_kind :
        (has : Bool) → has_irb s ≡ has →
        ((irb_figures s).share ≤ 1000000) × (((irb_figures s).charge ≤ 1000000) × ((irb_figures s).average ≤ 125000))
    by_kind true has =
        let g = good_irb s e has in
        simp has (g.share_most, (g.charge_most, g.average_most))
    by_kind false none = simp none (omega arith, (omega arith, omega arith))

-- and of a section that is there
pub irb_loans_within :
    (s : List ℕ) → judged s (needed s) ≡ Sound → has_irb s ≡ true →
    ((irb_figures s).loss ≤ 1000000) × ((1 ≤ (irb_figures s).loans) × ((irb_figures s).loans ≤ 1000000))
unfolding irb_figures
irb_loans_within s e has =
    let g = good_irb s e has in
    simp has (g.loss_most, (g.loans_least, g.loans_most))

-- ---- the words that are there to be read

pub fact_there : (s : List ℕ) (p : ℕ) → judged s (needed s) ≡ Sound → p ≤ pool_at s → p < length s
fact_there s p e h = (good_word s (needed s) p e (omega (arith, pool_count_needed s))).0

pub row_word_there : (s : List ℕ) (i c : ℕ) → judged s (needed s) ≡ Sound → i < rows s → c < 4 → row_at s i + c < length s
row_word_there s i c e row h = (good_word s (needed s) (row_at s i + c) e (row_word_needed s i c row h)).0

pub tranche_count_there : (s : List ℕ) → judged s (needed s) ≡ Sound → tranches_at s < length s
tranche_count_there s e = (good_word s (needed s) (tranches_at s) e (omega (arith, tranche_count_needed s))).0

pub tranche_word_there : (s : List ℕ) (i c : ℕ) → judged s (needed s) ≡ Sound → i < tranche_count s → c < 7 → tranche_at s i + c < length s
tranche_word_there s i c e row h = (good_word s (needed s) (tranche_at s i + c) e (tranche_word_needed s i c row h)).0
