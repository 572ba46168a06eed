-- The checks of 01's checked deals all hold, by computation; in each of the two open cases just the two numbers that 01 names pass, and in the first just two pass from below. No axioms.
use mathlib.Core.Bool.{true, ◌&&◌}
use mathlib.Core.Logic.{◌⊎◌, inl, inr, ⊎_elim}
use mathlib.Core.Path.{◌≡◌, refl, subst, sym}
use Prim.Native.Nat.{ℕ, suc, ◌≤◌}
use native.Mathlib.Nat.{eq-or-lt_of_le}
use native.Mathlib.Omega.{arith}
use borrow.Author.Tests.{leb-true, ltb-true}
use Rattle.numbers.proofs.Tests.{both_true}
use Rattle.files.specs.FileForm.{lowest_first, words_to, bytes_of, file_bytes}
use Rattle.series.specs.Series.{factorial, low}
use Rattle.series.specs.Ends.{lower_exponent, upper_exponent, upper_end, lower_end, Counts, Passes, PassesFromBelow}
use Rattle.series.specs.TableEntry.{entry}
use Rattle.formula.specs.FixedPoint.{fine_decay, decay_below, decay_above, mean_decay_of_large, mean_decay_above, product_above, units, formula_product, weight_numerator, formula_weight, raw_weight}
use Rattle.series.proofs.EndLaws.{passing_close, from_below_close}
use Rattle.ratings.specs.RatingTable.{exact_weight, weight_by_rating, weight_by_ratings, low_weight_by_ratings}
use Rattle.weights.specs.ApproachFloorCap.{formula_raw_weight, table_weight, weight, thin}
use Rattle.judgement.specs.DealSheet.{pool_at, rows, tranches_at, tranche_count, irb_at, irb_figures, needed, layout}
use Rattle.numbers.specs.First.{first_where}
use Rattle.numbers.specs.Sum.{sum}
use Rattle.charge.specs.PoolCharge.{known_charge, pool_charge}
use Rattle.pool.specs.PoolSums.{pool_sums}
use Rattle.deal.specs.Points.{senior_amount, attachment_point, detachment_point}
use Rattle.deal.specs.InferredRatings.{reference_row, rating_row}
use Rattle.deal.specs.Lines.{terms, tranche, line, line_words}
use Rattle.judgement.specs.Refusals.{fault, judge, first_of, words_verdict}
use Rattle.deal.specs.Refusals.{verdict}
use Rattle.deal.specs.Results.{reply_to, lines}
use Rattle.deal_file.specs.FileAnswer.{file_reply}
use Rattle.files.specs.Decimal.{digits, decimal}
use Rattle.report.specs.ReportText.{ascii, labelled, spaced, tranche_lines, deal_text, sheet_text, file_text}
use Rattle.report.specs.CheckedDeals.{all_hold, admitted, counts, end_at_most, end_above_minus_two, end_at_least, end_below_plus_one_and_aHalf, passes_at, passes_from_below_at, ordinary, JustTwo, checks}

pub checked_deals : all_hold checks ≡ true
unfolding
    checks
    lowest_first words_to bytes_of file_bytes
    pool_at rows tranches_at tranche_count irb_at irb_figures needed layout
    fault judge first_of words_verdict verdict
    sum pool_sums known_charge pool_charge senior_amount attachment_point detachment_point
    first_where reference_row rating_row
    exact_weight weight_by_rating weight_by_ratings low_weight_by_ratings
    factorial low entry fine_decay decay_below decay_above mean_decay_of_large mean_decay_above product_above units formula_product weight_numerator formula_weight raw_weight
    formula_raw_weight table_weight weight thin terms tranche line line_words lines reply_to file_reply
    ascii digits decimal labelled spaced tranche_lines deal_text sheet_text file_text
checked_deals = refl

-- ---- the open cases

-- what the tests at one k say
counted : (A D K p k : ℕ) → counts A D K p k ≡ true → Counts A D K p k
counted A D K p k e =
    let (at_l, at_u) = both_true (admitted (lower_exponent A K p) k) (admitted (upper_exponent D K p) k) e in
    record { at_l = leb-true _ _ at_l; at_u = leb-true _ _ at_u }

passes_by_test : (A D K p k w : ℕ) → passes_at A D K p k w ≡ true → Passes A D K p w
passes_by_test A D K p k w e =
    let upper = end_at_most (upper_end A D K p k) w in
    let (counted-above, lower) = both_true (counts A D K p k && upper) (end_above_minus_two (lower_end A D K p k) w) e in
    let (among, above) = both_true (counts A D K p k) upper counted-above in
    record { k = k; counts = counted A D K p k among; upper = leb-true _ _ above; lower = ltb-true _ _ lower }

passes_from_below_by_test : (A D K p k w : ℕ) → passes_from_below_at A D K p k w ≡ true → PassesFromBelow A D K p w
passes_from_below_by_test A D K p k w e =
    let lower = end_at_least (lower_end A D K p k) w in
    let (counted-below, upper) = both_true (counts A D K p k && lower) (end_below_plus_one_and_aHalf (upper_end A D K p k) w) e in
    let (among, below) = both_true (counts A D K p k) lower counted-below in
    record { k = k; counts = counted A D K p k among; lower = leb-true _ _ below; upper = ltb-true _ _ upper }

-- Two numbers that pass differ by at most 1: where w and the next one pass, no other does.
module _ (Pass : ℕ → Type 0) (close : (v w : ℕ) → Pass v → Pass w → w ≤ suc v) (w : ℕ) (first : Pass w) (second : Pass (suc w)) where
  no_third : (x : ℕ) → Pass x → (x ≡ w) ⊎ (x ≡ suc w)
  no_third x h =
      let least : w ≤ x = omega (arith, close x (suc w) h second) in
      ⊎_elim inr (λ l. inl (omega arith)) (eq-or-lt_of_le (close w x first h))

  just_two : JustTwo Pass w (suc w)
  just_two = record {
    these = λ x. ⊎_elim (λ is. subst Pass (sym is) first) (λ is. subst Pass (sym is) second);
    no_other = no_third;
  }

-- "K = A = 100,000, D = 200,000: 79,016 or 79,017."
pub open_case_above_charge : JustTwo (Passes 100000 200000 100000 ordinary) 79016 79017
unfolding low factorial
open_case_above_charge =
    just_two (Passes 100000 200000 100000 ordinary)
    (passing_close 100000 200000 100000 ordinary (omega arith) (omega arith) (omega arith)) 79016
    (passes_by_test 100000 200000 100000 ordinary 8 79016 refl) (passes_by_test 100000 200000 100000 ordinary 8 79017 refl)

-- "K = 100,000, A = 50,000, D = 150,000: 111,684 or 111,685."
pub open_case_around_charge : JustTwo (Passes 50000 150000 100000 ordinary) 111684 111685
unfolding low factorial
open_case_around_charge =
    just_two (Passes 50000 150000 100000 ordinary)
    (passing_close 50000 150000 100000 ordinary (omega arith) (omega arith) (omega arith)) 111684
    (passes_by_test 50000 150000 100000 ordinary 6 111684 refl) (passes_by_test 50000 150000 100000 ordinary 6 111685 refl)

-- S-6 of K = A = 100,000, D = 200,000: 79,014 or 79,015.
pub open_case_from_below : JustTwo (PassesFromBelow 100000 200000 100000 ordinary) 79014 79015
unfolding low factorial
open_case_from_below =
    just_two (PassesFromBelow 100000 200000 100000 ordinary)
    (λ v w h h'. from_below_close 100000 200000 100000 ordinary (omega arith) (omega arith) (omega arith) w v h' h) 79014
    (passes_from_below_by_test 100000 200000 100000 ordinary 8 79014 refl) (passes_from_below_by_test 100000 200000 100000 ordinary 8 79015 refl)
