-- A fact, a pool row, a tranche row, a class and an IRB section keep the limits of 01's "The deal sheet" and 02's S-1, S-3, S-5 and S-9 just where their words have no fault. No axioms.
use mathlib.Core.Bool.{Bool, true, false, cond, ◌&&◌, ◌||◌}
use mathlib.Core.Logic.{◌⊎◌, inl, inr, ⊎_elim}
use mathlib.Core.Path.{◌≡◌, refl}
use Prim.Native.Nat.{ℕ, zero, suc, ◌+◌, ◌≤◌, ◌<◌}
use native.Mathlib.Omega.{arith}
use lib.Dec.{leb, eqb}
use borrow.Author.Tests.{leb-true, eqb-true, eqb-false, le-leb, eq-eqb, ne_eqb}
use Rattle.numbers.proofs.Tests.{within_is, either_true, true_either}
use Rattle.rating_codes.specs.RatingCodes.{listed}
use Rattle.dates.specs.Calendar.{names_day, Day}
use Rattle.dates.specs.Maturity.{maturity_months, maturity_allowed}
use Rattle.dates.proofs.CalendarLaws.{day_named, named_day}
use Rattle.dates.proofs.MaturityLaws.{later_day, day_later}
use Rattle.faults.specs.WordFaults.{yes_or_no, code_fault, fact_fault, highest_weight_word, risk_weight_in_limits, status_allowed, row_fault, class_in_order, held_in_limits, tranche_fault, share_allowed, irb_fault}
use Rattle.faults.specs.GoodWords.{GoodFact, GoodRow, GoodTranche, NextClass, GoodClass, GoodIrb}
use Rattle.faults.proofs.FaultLaws.{unless_zero, no_fault_within}

-- ---- facts

code_of : (w : ℕ) → code_fault w ≡ 0 → w ≤ 1
code_of w e = omega (arith, leb-true w _ (unless_zero 4 (yes_or_no w) (omega arith) e))

-- where the fifth fact has no fault it is a code, and in a re-securitisation no mark
marked : (b c : Bool) (x : ℕ) → cond (b && c) 16 x ≡ 0 → (x ≡ 0) × (b ≡ true → c ≡ false)
marked true true x e = absurd (omega arith)
marked true false x e = (e, λ _. refl)
marked false c x e = (e, λ z. absurd (let y : ◌≡◌ {A = ℕ} 0 1 = cc in omega arith))

pub no_mark : (w : ℕ) → w ≤ 1 → eqb w 1 ≡ false → w ≡ 0
no_mark zero h e = refl
no_mark (suc zero) h e = absurd (eqb-false 1 1 e refl)
no_mark (suc (suc w)) h e = absurd (omega arith)

mark_free : (resecuritised : Bool) (w : ℕ) → (resecuritised ≡ true → w ≡ 0) → resecuritised && eqb w 1 ≡ false
mark_free true w h = rw (h refl)
mark_free false w h = refl

-- the sixth fact is 0 or a day
dated : (w : ℕ) → (w ≡ 0) ⊎ Day w → eqb w 0 || names_day w ≡ true
dated w (inl none) = true_either (eqb w 0) (names_day w) (inl (eq-eqb w 0 none))
dated w (inr day) = true_either (eqb w 0) (names_day w) (inr (named_day w day))

module _ (resecuritised : Bool) (p w : ℕ) where
  kind_code : p ≡ 1 → fact_fault resecuritised p w ≡ 0 → w ≤ 2
  kind_code is e = leb-true w 2 (unless_zero 4 (leb w 2) (omega arith) (rw (eq-eqb p 1 is) at e))

  stc_code : p ≡ 5 → fact_fault resecuritised p w ≡ 0 → (w ≤ 1) × (resecuritised ≡ true → w ≡ 0)
  stc_code is e =
      let both = marked resecuritised (eqb w 1) (code_fault w) (rw (ne_eqb p 1 (λ z. omega arith), eq-eqb p 5 is) at e) in
      let code = code_of w both.0 in
      (code, λ r. no_mark w code (both.1 r))

  date_code : p ≡ 6 → fact_fault resecuritised p w ≡ 0 → (w ≡ 0) ⊎ Day w
  date_code is e =
      ⊎_elim (λ none. inl (eqb-true w 0 none)) (λ named. inr (day_named w named))
      (either_true (eqb w 0) (names_day w)
      (unless_zero 17 (eqb w 0 || names_day w) (omega arith)
      (rw (ne_eqb p 1 (λ z. omega arith), ne_eqb p 5 (λ z. omega arith), eq-eqb p 6 is) at e)))

  yes_or_no_lem : 1 < p → (p ≡ 6 → ⊥) → fact_fault resecuritised p w ≡ 0 → w ≤ 1
  yes_or_no_lem h other e = by_place (eqb p 5) refl
    where
      by_place : (fifth : Bool) → eqb p 5 ≡ fifth → w ≤ 1
      by_place true at = (stc_code (eqb-true p 5 at) e).0
      by_place false at = code_of w (rw (ne_eqb p 1 (λ z. omega arith), at, ne_eqb p 6 other) at e)

  pub good_fact : fact_fault resecuritised p w ≡ 0 → GoodFact resecuritised p w
  good_fact e = record {
    pool_kind_good = λ is. kind_code is e;
    code = λ h other. yes_or_no_lem h other e;
    mark = λ is r. (stc_code is e).1 r;
    reporting_date_good = λ is. date_code is e;
  }

pub fact_good : (resecuritised : Bool) (p w : ℕ) → 1 ≤ p → GoodFact resecuritised p w → fact_fault resecuritised p w ≡ 0
fact_good resecuritised zero w least g = absurd (omega arith)
fact_good resecuritised (suc zero) w least g = simp (le-leb w 2 (g.pool_kind_good refl))
fact_good resecuritised (suc (suc p)) w least g = by_place (eqb (suc (suc p)) 5) refl (eqb (suc (suc p)) 6) refl
  where
    other : suc (suc p) ≡ 1 → ⊥
    other e = omega arith

    by_place :
        (fifth : Bool) → eqb (suc (suc p)) 5 ≡ fifth → (sixth : Bool) → eqb (suc (suc p)) 6 ≡ sixth → fact_fault resecuritised (suc (suc p)) w ≡ 0
    by_place true at sixth _ =
        let is = eqb-true (suc (suc p)) 5 at in
        simp (
          ne_eqb (suc (suc p)) 1 other,
          at,
          mark_free resecuritised w (g.mark is),
          le-leb w 1 (g.code (omega arith) (λ e. omega arith)),
        )
    by_place false not-fifth true at =
        simp (ne_eqb (suc (suc p)) 1 other, not-fifth, at, dated w (g.reporting_date_good (eqb-true (suc (suc p)) 6 at)))
    by_place false not-fifth false at =
        simp (ne_eqb (suc (suc p)) 1 other, not-fifth, at, le-leb w 1 (g.code (omega arith) (eqb-false (suc (suc p)) 6 at)))

-- ---- pool rows

module _ (resecuritised hundredths : Bool) (e n w t : ℕ) where
  pub good_row :
      row_fault resecuritised hundredths 0 e ≡ 0 → row_fault resecuritised hundredths 1 n ≡ 0 → row_fault resecuritised hundredths 2 w ≡ 0 →
      row_fault resecuritised hundredths 3 t ≡ 0 → GoodRow resecuritised hundredths e n w t
  good_row first second third fourth =
      let exposures = no_fault_within 5 1 10000000000 e (omega arith) first in
      let nominals = no_fault_within 5 1 10000000000 n (omega arith) second in
      let most : w ≤ highest_weight_word hundredths = leb-true w _ (unless_zero 6 (risk_weight_in_limits hundredths w) (omega arith) third) in
      let allowed = unless_zero 7 (status_allowed resecuritised t) (omega arith) fourth in
      record {
        exposure_least = exposures.0;
        exposure_most = exposures.1;
        nominal_least = nominals.0;
        nominal_most = nominals.1;
        weight_percent = λ u. omega (arith, rw u at most);
        weight_hundredths = λ u. omega (arith, rw u at most);
        status_ordinary = λ r. omega (arith, leb-true t _ (rw r at allowed));
        status_resecuritised = λ r. eqb-true t 3 (rw r at allowed);
      }

status_good :
    (resecuritised : Bool) (w : ℕ) → (resecuritised ≡ false → w ≤ 2) → (resecuritised ≡ true → w ≡ 3) →
    status_allowed resecuritised w ≡ true
status_good true w ordinary tranches = eq-eqb w 3 (tranches refl)
status_good false w ordinary tranches = le-leb w 2 (ordinary refl)

weight_in_limits : (hundredths : Bool) (w : ℕ) → (hundredths ≡ false → w ≤ 1250) → (hundredths ≡ true → w ≤ 125000) → w ≤ highest_weight_word hundredths
weight_in_limits true w percent fine = fine refl
weight_in_limits false w percent fine = percent refl

module _ (resecuritised hundredths : Bool) (e n w t : ℕ) (g : GoodRow resecuritised hundredths e n w t) where
  pub exposure_good : row_fault resecuritised hundredths 0 e ≡ 0
  exposure_good = simp (within_is 1 10000000000 e g.exposure_least g.exposure_most)

  pub nominal_good : row_fault resecuritised hundredths 1 n ≡ 0
  nominal_good = simp (within_is 1 10000000000 n g.nominal_least g.nominal_most)

  pub weight_good : row_fault resecuritised hundredths 2 w ≡ 0
  weight_good = simp (le-leb w (highest_weight_word hundredths) (weight_in_limits hundredths w g.weight_percent g.weight_hundredths))

  pub row_status_good : row_fault resecuritised hundredths 3 t ≡ 0
  row_status_good = simp (status_good resecuritised t g.status_ordinary g.status_resecuritised)

-- ---- tranche rows; r is the reporting date or 0, i the row's number and b the class of the row before it

-- where a maturity has no fault it gets no 17, and its months no 10
not_17 : (b : Bool) (n : ℕ) → cond b n 17 ≡ 0 → (b ≡ true) × (n ≡ 0)
not_17 true n e = (refl, e)
not_17 false n e = absurd (omega arith)

module _ (r i b : ℕ) where
  next_class : (w : ℕ) → 0 < i → class_in_order i b w ≡ true → NextClass b w
  next_class w h e =
      ⊎_elim
      (λ same. inl (eqb-true w b same))
      (λ more. let q = eqb-true w _ more in inr (omega arith))
      (either_true (eqb w b) _ (rw (ne_eqb i 0 (λ z. omega arith)) at e))

  pub good_class : (a w : ℕ) → tranche_fault r i b a 1 w ≡ 0 → GoodClass i b w
  good_class a w e =
      let allowed = unless_zero 9 (class_in_order i b w) (omega arith) e in
      record {
        of_first = λ is. eqb-true w 1 (rw (eq-eqb i 0 is) at allowed);
        of_next = λ h. next_class w h allowed;
      }

  pub good_tranche :
      (a m h x y z : ℕ) → tranche_fault r i b a 0 a ≡ 0 → tranche_fault r i b a 2 m ≡ 0 → tranche_fault r i b a 3 h ≡ 0 → tranche_fault r i b a 4 x ≡ 0 →
      tranche_fault r i b a 5 y ≡ 0 → tranche_fault r i b a 6 z ≡ 0 → GoodTranche r a m h x y z
  good_tranche a m h x y z amounts maturities holdings first second third =
      let amount = no_fault_within 8 1 10000000000000 a (omega arith) amounts in
      let maturity = not_17 (maturity_allowed r m) _ maturities in
      let months = no_fault_within 10 1 1200 (maturity_months r m) (omega arith) maturity.1 in
      record {
        amount_least = amount.0;
        amount_at_most = amount.1;
        maturity_day = λ set. (later_day r m maturity.0 set).1;
        maturity_after = λ set. (later_day r m maturity.0 set).0;
        months_least = months.0;
        months_most = months.1;
        held_most = omega (arith, leb-true h _ (unless_zero 8 (held_in_limits a h) (omega arith) holdings));
        first_listed = unless_zero 11 (listed x) (omega arith) first;
        second_listed = unless_zero 11 (listed y) (omega arith) second;
        third_listed = unless_zero 11 (listed z) (omega arith) third;
      }

  class_allowed : (w : ℕ) → GoodClass i b w → class_in_order i b w ≡ true
  class_allowed w g = by_row i refl
    where
      by_row : (j : ℕ) → j ≡ i → class_in_order i b w ≡ true
      by_row zero e = rw (← e) (eq-eqb w 1 (g.of_first (omega arith)))
      by_row (suc j) e =
          let other : i ≡ 0 → ⊥ = (λ z. omega arith) in
          rw (ne_eqb i 0 other)
          (true_either (eqb w b) (eqb w (b + 1))
          (⊎_elim (λ same. inl (eq-eqb _ _ same)) (λ more. inr (eq-eqb _ _ more)) (g.of_next (omega arith))))

  pub class_good : (a w : ℕ) → GoodClass i b w → tranche_fault r i b a 1 w ≡ 0
  class_good a w g = simp (class_allowed w g)

  module _ (a m h x y z : ℕ) (g : GoodTranche r a m h x y z) where
    pub amount_good : tranche_fault r i b a 0 a ≡ 0
    amount_good = simp (within_is 1 10000000000000 a g.amount_least g.amount_at_most)

    pub maturity_good : tranche_fault r i b a 2 m ≡ 0
    maturity_good =
        simp (
          day_later r m g.maturity_after g.maturity_day,
          within_is 1 1200 (maturity_months r m) g.months_least g.months_most,
        )

    pub held_good : tranche_fault r i b a 3 h ≡ 0
    held_good = simp (le-leb h a g.held_most)

    pub first_good : tranche_fault r i b a 4 x ≡ 0
    first_good = simp g.first_listed

    pub second_good : tranche_fault r i b a 5 y ≡ 0
    second_good = simp g.second_listed

    pub third_good : tranche_fault r i b a 6 z ≡ 0
    third_good = simp g.third_listed

-- ---- the IRB section

share_of : (kind w : ℕ) → share_allowed kind w ≡ true → (kind ≡ 1 → w ≡ 1000000) × (w ≤ 1000000)
share_of kind w e = by_kind (eqb kind 1) refl
  where
    by_kind : (whole : Bool) → eqb kind 1 ≡ whole → (kind ≡ 1 → w ≡ 1000000) × (w ≤ 1000000)
    by_kind true is =
        let all = eqb-true w 1000000 (rw is at e) in
        (λ _. all, omega arith)
    by_kind false is = (λ one. absurd (eqb-false kind 1 is one), leb-true w 1000000 (rw is at e))

share_good : (kind w : ℕ) → (kind ≡ 1 → w ≡ 1000000) → w ≤ 1000000 → share_allowed kind w ≡ true
share_good kind w whole most = by_kind (eqb kind 1) refl
  where
    by_kind : (one : Bool) → eqb kind 1 ≡ one → share_allowed kind w ≡ true
    by_kind true is = rw is (eq-eqb w 1000000 (whole (eqb-true kind 1 is)))
    by_kind false is = rw is (le-leb w 1000000 most)

module _ (kind k l n t x a : ℕ) where
  pub good_irb :
      irb_fault kind 0 k ≡ 0 → irb_fault kind 1 l ≡ 0 → irb_fault kind 2 n ≡ 0 → irb_fault kind 3 t ≡ 0 → irb_fault kind 4 x ≡ 0 → irb_fault kind 5 a ≡ 0 →
      GoodIrb kind k l n t x a
  good_irb charge loss loans retail share average =
      let number = no_fault_within 18 1 1000000 n (omega arith) loans in
      let allowed = share_of kind x (unless_zero 18 (share_allowed kind x) (omega arith) share) in
      record {
        charge_most = leb-true k 1000000 (unless_zero 18 (leb k 1000000) (omega arith) charge);
        loss_most = leb-true l 1000000 (unless_zero 18 (leb l 1000000) (omega arith) loss);
        loans_least = number.0;
        loans_most = number.1;
        retail_code = leb-true t 1 (unless_zero 18 (yes_or_no t) (omega arith) retail);
        share_whole = allowed.0;
        share_most = allowed.1;
        average_most = leb-true a 125000 (unless_zero 18 (leb a 125000) (omega arith) average);
      }

  module _ (g : GoodIrb kind k l n t x a) where
    pub irb_charge_good : irb_fault kind 0 k ≡ 0
    irb_charge_good = simp (le-leb k 1000000 g.charge_most)

    pub irb_loss_good : irb_fault kind 1 l ≡ 0
    irb_loss_good = simp (le-leb l 1000000 g.loss_most)

    pub irb_loans_good : irb_fault kind 2 n ≡ 0
    irb_loans_good = simp (within_is 1 1000000 n g.loans_least g.loans_most)

    pub irb_retail_good : irb_fault kind 3 t ≡ 0
    irb_retail_good = simp (le-leb t 1 g.retail_code)

    pub irb_share_good : irb_fault kind 4 x ≡ 0
    irb_share_good = simp (share_good kind x g.share_whole g.share_most)

    pub irb_average_good : irb_fault kind 5 a ≡ 0
    irb_average_good = simp (le-leb a 125000 g.average_most)
