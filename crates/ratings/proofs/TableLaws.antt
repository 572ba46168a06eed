-- Laws of the weight by ratings: bounds, the maturities of one and of five years, a non-senior tranche beside a senior one, several ratings, and both ends. "What
-- is shown of rows and maturities is shown once for any table of 18 rows": the laws are over any figures, and a table needs only the computed test of its figures
-- that the bounds rest on. No axioms.
use mathlib.Core.Bool.{Bool, true, false, cond, ◌&&◌}
use mathlib.Core.List.Perm
use mathlib.Core.List.{List, [], ◌∷◌, map, map-map, Mem, Perm}
use mathlib.Core.Path.{◌≡◌, refl, ◌∙◌, sym, ap}
use Prim.Native.Nat.{ℕ, ◌+◌, ◌*◌, ◌-◌, min, max, ◌≤◌, ◌<◌}
use native.Mathlib.Nat.{le_refl, mul-le-mul, mul-le-mul_right}
use native.Mathlib.Omega.{arith}
use lib.Dec.{T, leb, leb→le}
use lib.ListN.{length, get_or}
use borrow.Author.Tests.{le-leb, lt-leb}
use Rattle.numbers.specs.Rounding.{rounded_up}
use Rattle.numbers.specs.BothEnds.{both, rounded, EndsWithin}
use Rattle.numbers.specs.declared.Ends.{Ends}
use Rattle.numbers.proofs.RoundingLaws.{rounded_up_at_most, rounded_up_monotone, rounded_up_exact, rounded_up_zero, rounded_within}
use Rattle.numbers.proofs.Table.{all_below, at_each}
use Rattle.numbers.proofs.Tests.{and_both, at_cond, cond_both, neither_true}
use Rattle.rating_codes.specs.RatingCodes.{long_term, short_term, present, ratings_among}
use Rattle.rating_codes.proofs.CodeLaws.{long_term_within, short_term_within, ratings_permuted}
use Rattle.ratings.specs.RatingTable.{RatingFigures, figures_of, figure, maturity_fifths, linear, non_senior_linear, beside_senior, long_term_exact, exact_parts, exact_weight, weight_by_rating, pick, weight_by_ratings, low_weight_by_ratings, ends_by_ratings}
use Rattle.ratings.proofs.PickLaws.{each_value, pick_at_most, pick_is_one, pick_of_rising, pick_one, pick_permuted, pick_three}

-- ---- the figures

-- the test f passes at each of the 18 rows and four columns
abbrev pub all_figures : (ℕ → ℕ → Bool) → Bool
all_figures f = all_below (λ row. all_below (f row) 4) 18

pub at_each_figure : (f : ℕ → ℕ → Bool) → T (all_figures f) → (row column : ℕ) → row < 18 → column < 4 → T (f row column)
at_each_figure f t row column r c = at_each (f row) 4 (at_each (λ row. all_below (f row) 4) 18 t row r) column c

-- every figure of a table is at most the limit
abbrev pub table_at_most : ℕ → List (List ℕ) → Bool
table_at_most limit table = all_figures (λ row column. leb (get_or (get_or table row []) column 0) limit)

pub figure_at_most :
    (limit : ℕ) (table : List (List ℕ)) (grade column : ℕ) →
    T (table_at_most limit table) → 1 ≤ grade → grade ≤ 18 → column < 4 → figure table grade column ≤ limit
figure_at_most limit table grade column t least most before =
    leb→le (figure table grade column) limit
    (at_each_figure (λ row column. leb (get_or (get_or table row []) column 0) limit) t (grade - 1) column (omega arith) before)

-- every short-term figure is at most the limit
abbrev pub short_term_at_most : ℕ → List ℕ → Bool
short_term_at_most limit list = all_below (λ i. leb (get_or list i 0) limit) 4

pub short_term_figure_at_most :
    (limit : ℕ) (list : List ℕ) (code : ℕ) → T (short_term_at_most limit list) → code ≤ 24 → get_or list (code - 21) 0 ≤ limit
short_term_figure_at_most limit list code t most =
    leb→le (get_or list (code - 21) 0) limit (at_each (λ i. leb (get_or list i 0) limit) 4 t (code - 21) (omega arith))

abbrev pub figures_at_most : ℕ → RatingFigures → Bool
figures_at_most limit figures = table_at_most limit figures.long_term_figures && short_term_at_most limit figures.short_term_figures

-- the test of Tables 1 and 2, and of Tables 3 and 4: no figure is above 1250
pub figures_at_most_lem : (stc : Bool) → T (figures_at_most 1250 (figures_of stc))
figures_at_most_lem true = tt
figures_at_most_lem false = tt

-- ---- the maturity

pub maturity_within : (months : ℕ) → (60 ≤ maturity_fifths months) × (maturity_fifths months ≤ 300)
maturity_within months = (omega arith, omega arith)

pub maturity_one_year : (months : ℕ) → months ≤ 12 → maturity_fifths months ≡ 60
maturity_one_year months h = omega arith

pub maturity_five_years : (months : ℕ) → 72 ≤ months → maturity_fifths months ≡ 300
maturity_five_years months h = omega arith

-- ---- the exact weight

pub linear_at_most :
    (limit one five fifths : ℕ) → one ≤ limit → five ≤ limit → 60 ≤ fifths → fifths ≤ 300 → linear one five fifths ≤ limit * 240
linear_at_most limit one five fifths p q least most =
    let parts : 300 - fifths + (fifths - 60) ≡ 240 = omega arith in
    omega (arith, mul-le-mul_right (300 - fifths) p, mul-le-mul_right (fifths - 60) q, ap (λ (x : ℕ). limit * x) parts)

pub beside_senior_at_most :
    (compared : Bool) (own senior limit : ℕ) → own ≤ limit → senior ≤ limit → beside_senior compared own senior ≤ limit
beside_senior_at_most true own senior limit p q = omega arith
beside_senior_at_most false own senior limit p q = p

-- a share of a percentage of at most 1250, in millionths of 240 times it
share_at_most : (n share : ℕ) → n ≤ 300000 → share ≤ 1000000 → n * share ≤ 300000000000
share_at_most n share p h = omega (arith, mul-le-mul p h)

module _ (figures : RatingFigures) (t : T (figures_at_most 1250 figures)) where
  both_tests : T (table_at_most 1250 figures.long_term_figures) × T (short_term_at_most 1250 figures.short_term_figures)
  both_tests = and_both (table_at_most 1250 figures.long_term_figures) (short_term_at_most 1250 figures.short_term_figures) t

  -- the linear figures from a column to the next
  pub linear_figures_at_most :
      (grade column fifths : ℕ) → 1 ≤ grade → grade ≤ 18 → column < 3 → 60 ≤ fifths → fifths ≤ 300 →
      linear (figure figures.long_term_figures grade column) (figure figures.long_term_figures grade (column + 1)) fifths ≤ 300000
  linear_figures_at_most grade column fifths least most before from to =
      let table = figures.long_term_figures in
      linear_at_most 1250 (figure table grade column) (figure table grade (column + 1)) fifths
      (figure_at_most 1250 table grade column both_tests.0 least most (omega arith))
      (figure_at_most 1250 table grade (column + 1) both_tests.0 least most (omega arith))
      from to

  pub long_term_exact_at_most :
      (grade : ℕ) (senior : Bool) (fifths thickness : ℕ) → 1 ≤ grade → grade ≤ 18 → 60 ≤ fifths → fifths ≤ 300 →
      long_term_exact figures grade senior fifths thickness ≤ 125000 * exact_parts
  long_term_exact_at_most grade true fifths thickness least most from to =
      omega (arith, linear_figures_at_most grade 0 fifths least most (omega arith) from to)
  long_term_exact_at_most grade false fifths thickness least most from to =
      let non_senior = linear_figures_at_most grade 2 fifths least most (omega arith) from to in
      let senior = linear_figures_at_most grade 0 fifths least most (omega arith) from to in
      omega (
        arith,
        beside_senior_at_most figures.compared _ _ 300000000000
            (share_at_most _ (1000000 - min thickness 500000) non_senior (omega arith))
            (share_at_most _ 1000000 senior (le_refl 1000000)),
      )

  pub exact_weight_at_most :
      (code : ℕ) (senior : Bool) (months thickness : ℕ) → exact_weight figures code senior months thickness ≤ 125000 * exact_parts
  unfolding exact_weight
  exact_weight_at_most code senior months thickness =
      at_cond (λ w. w ≤ 125000 * exact_parts) (long_term code) _ _
      (λ e.
      let within = long_term_within code e in
      let fifths = maturity_within months in
      long_term_exact_at_most code senior (maturity_fifths months) thickness within.0 within.1 fifths.0 fifths.1)
      (λ _.
      at_cond (λ w. w ≤ 125000 * exact_parts) (short_term code) _ _
      (λ e. omega (arith, short_term_figure_at_most 1250 figures.short_term_figures code both_tests.1 (short_term_within code e).1))
      (λ _. omega arith))

  pub weight_by_rating_at_most :
      (code : ℕ) (senior : Bool) (months thickness : ℕ) → weight_by_rating figures code senior months thickness ≤ 125000
  unfolding weight_by_rating
  weight_by_rating_at_most code senior months thickness =
      rounded_up_at_most (exact_weight figures code senior months thickness) exact_parts 125000
      (exact_weight_at_most code senior months thickness)

-- ---- the weight by one rating

module _ (figures : RatingFigures) where
  -- an exact weight that is a whole number needs no rounding
  whole_weight :
      (code : ℕ) (senior : Bool) (months thickness w : ℕ) →
      exact_weight figures code senior months thickness ≡ w * exact_parts → weight_by_rating figures code senior months thickness ≡ w
  unfolding weight_by_rating
  whole_weight code senior months thickness w e = rw e (rounded_up_exact w exact_parts (omega arith))

  pub senior_one_year :
      (grade months thickness : ℕ) → 1 ≤ grade → grade ≤ 18 → months ≤ 12 →
      weight_by_rating figures grade true months thickness ≡ 100 * figure figures.long_term_figures grade 0
  unfolding exact_weight
  senior_one_year grade months thickness least most short =
      whole_weight grade true months thickness (100 * figure figures.long_term_figures grade 0)
      (simp (le-leb 1 grade least, le-leb grade 18 most, maturity_one_year months short) (omega arith))

  pub senior_five_years :
      (grade months thickness : ℕ) → 1 ≤ grade → grade ≤ 18 → 72 ≤ months →
      weight_by_rating figures grade true months thickness ≡ 100 * figure figures.long_term_figures grade 1
  unfolding exact_weight
  senior_five_years grade months thickness least most long =
      whole_weight grade true months thickness (100 * figure figures.long_term_figures grade 1)
      (simp (le-leb 1 grade least, le-leb grade 18 most, maturity_five_years months long) (omega arith))

  pub no_rating_no_exact :
      (code : ℕ) (senior : Bool) (months thickness : ℕ) → present code ≡ false → exact_weight figures code senior months thickness ≡ 0
  unfolding exact_weight
  no_rating_no_exact code senior months thickness e =
      let neither = neither_true (long_term code) (short_term code) e in
      simp (neither.0, neither.1)

  pub no_rating_no_weight :
      (code : ℕ) (senior : Bool) (months thickness : ℕ) →
      present code ≡ false → weight_by_rating figures code senior months thickness ≡ 0
  no_rating_no_weight code senior months thickness e =
      whole_weight code senior months thickness 0 (no_rating_no_exact code senior months thickness e)

  -- "no lower than the senior figure of that rating and maturity", where the two are compared
  pub non_senior_at_least_senior :
      figures.compared ≡ true → (code months thickness : ℕ) →
      weight_by_rating figures code true months thickness ≤ weight_by_rating figures code false months thickness
  unfolding weight_by_rating exact_weight
  non_senior_at_least_senior e code months thickness =
      rounded_up_monotone (exact_weight figures code true months thickness) (exact_weight figures code false months thickness) exact_parts
      (cond_both (λ (m n : ℕ). m ≤ n) (long_term code) _ _ _ _ (simp e (omega arith)) (le_refl _))

  -- elsewhere a non-senior weight is the tranche's own, less by its thickness and rounded up, whatever the senior figure
  pub non_senior_own :
      figures.compared ≡ false → (grade months thickness : ℕ) → 1 ≤ grade → grade ≤ 18 →
      weight_by_rating figures grade false months thickness ≡
      rounded_up
      (100 * (non_senior_linear figures.long_term_figures grade (maturity_fifths months) * (1000000 - min thickness 500000)))
      exact_parts
  unfolding weight_by_rating exact_weight
  non_senior_own e grade months thickness least most = simp (le-leb 1 grade least, le-leb grade 18 most, e)

-- So in an STC deal a non-senior weight can lie below the senior one of the same rating and maturity: AA, 13 months and a tenth thick, 1,433 against
-- 1,509; A+, 12 months and half thick, 1,750 against 2,000, and 1,750 is above the floor
pub stc_below_senior :
    (weight_by_rating (figures_of true) 3 false 13 100000 ≡ 1433) × (weight_by_rating (figures_of true) 3 true 13 100000 ≡ 1509) ×
    (weight_by_rating (figures_of true) 5 false 12 500000 ≡ 1750) × (weight_by_rating (figures_of true) 5 true 12 500000 ≡ 2000)
unfolding weight_by_rating exact_weight
stc_below_senior = (refl, refl, refl, refl)

-- ---- the weight by several ratings

-- By weight and not by code: AA, the second short-term grade and BBB, senior and five years, weigh 40%, 50% and 105%, so 50% counts. Equal ratings count
-- separately: AAA twice and BBB give the weight of AAA. Two ratings give the higher weight, whichever word is none
pub several_ratings_by_numbers :
    (weight_by_ratings (figures_of false) 3 22 9 true 72 0 ≡ 5000) × (weight_by_ratings (figures_of false) 1 1 9 true 72 0 ≡ 2000) ×
    (weight_by_ratings (figures_of false) 0 9 1 true 72 0 ≡ 10500) × (weight_by_ratings (figures_of false) 9 0 1 true 72 0 ≡ 10500) ×
    (weight_by_ratings (figures_of false) 1 9 0 true 72 0 ≡ 10500)
unfolding weight_by_ratings weight_by_rating exact_weight
several_ratings_by_numbers = (refl, refl, refl, refl, refl)

-- S-6: "picking among the exact figures": AAA and the second short-term grade, non-senior, five years and 285,715 thick, weigh exactly 4,999.995 and 5,000. Both are 5,000 rounded up, and
-- the low end is that of the higher, 5,000; that of the first would be 4,999. The order does not matter, nor does a third rating of a higher weight, BBB. Alone AAA has 4,999 and 5,000
pub low_ends_by_numbers :
    (ends_by_ratings (figures_of false) 1 22 0 false 72 285715 ≡ both 5000) × (ends_by_ratings (figures_of false) 22 1 0 false 72 285715 ≡ both 5000) ×
    (ends_by_ratings (figures_of false) 1 22 9 false 72 285715 ≡ both 5000) ×
    (ends_by_ratings (figures_of false) 1 0 0 false 72 285715 ≡ record { low = 4999; high = 5000 })
unfolding low_weight_by_ratings weight_by_ratings weight_by_rating exact_weight
low_ends_by_numbers = (refl, refl, refl, refl)

-- those of three codes that pass their tests, as `ratings_among` keeps them
abbrev kept : Bool → Bool → Bool → ℕ → ℕ → ℕ → List ℕ
kept p q r first second third =
    let one = cond r (third ∷ []) [] in
    let two = cond q (second ∷ one) one in
    cond p (first ∷ two) two

-- the pick among the values of a function at those of three words that are ratings, where it is 0 at a code that is none
module _ (f : ℕ → ℕ) (none : (code : ℕ) → present code ≡ false → f code ≡ 0) where
  -- with three ratings the middle value, with fewer the highest of all three words
  pick_by_count :
      (first second third : ℕ) →
      pick (map f (ratings_among (first ∷ second ∷ third ∷ []))) ≡
      cond (leb 3 (length (ratings_among (first ∷ second ∷ third ∷ []))))
      (min (max (f first) (min (f second) (f third))) (max (f second) (f third)))
      (max (f first) (max (f second) (f third)))
  pick_by_count first second third =
      by_tests (present first) (present second) (present third) (none first) (none second) (none third)
    where
      by_tests :
          (p q r : Bool) → (p ≡ false → f first ≡ 0) → (q ≡ false → f second ≡ 0) → (r ≡ false → f third ≡ 0) →
          pick (map f (kept p q r first second third)) ≡
          cond (leb 3 (length (kept p q r first second third)))
          (min (max (f first) (min (f second) (f third))) (max (f second) (f third)))
          (max (f first) (max (f second) (f third)))
      by_tests true true true a b c = pick_three (f first) (f second) (f third)
      by_tests true true false a b c = omega (arith, c refl)
      by_tests true false true a b c = omega (arith, b refl)
      by_tests true false false a b c = omega (arith, b refl, c refl)
      by_tests false true true a b c = omega (arith, a refl)
      by_tests false true false a b c = omega (arith, a refl, c refl)
      by_tests false false true a b c = omega (arith, a refl, b refl)
      by_tests false false false a b c = omega (arith, a refl, b refl, c refl)

  pub pick_of_three :
      (first second third : ℕ) → 3 ≤ length (ratings_among (first ∷ second ∷ third ∷ [])) →
      pick (map f (ratings_among (first ∷ second ∷ third ∷ []))) ≡ min (max (f first) (min (f second) (f third))) (max (f second) (f third))
  pick_of_three first second third many = rw (le-leb 3 _ many) at (pick_by_count first second third)

  pub pick_of_fewer :
      (first second third : ℕ) → length (ratings_among (first ∷ second ∷ third ∷ [])) < 3 →
      pick (map f (ratings_among (first ∷ second ∷ third ∷ []))) ≡ max (f first) (max (f second) (f third))
  pick_of_fewer first second third few = rw (lt-leb 3 _ few) at (pick_by_count first second third)

module _ (figures : RatingFigures) (senior : Bool) (months thickness : ℕ) where
  abbrev weight_by : ℕ → ℕ
  weight_by code = weight_by_rating figures code senior months thickness

  abbrev exact_by : ℕ → ℕ
  exact_by code = exact_weight figures code senior months thickness

  abbrev by_ratings : ℕ → ℕ → ℕ → ℕ
  by_ratings first second third = weight_by_ratings figures first second third senior months thickness

  abbrev ends : ℕ → ℕ → ℕ → Ends
  ends first second third = ends_by_ratings figures first second third senior months thickness

  -- one rating's own weight counts, the other words being none
  pub one_rating :
      (code second third : ℕ) → present second ≡ false → present third ≡ false → by_ratings code second third ≡ weight_by code
  unfolding weight_by_ratings
  one_rating code second third p q = simp (p, q) (by_test (present code) (no_rating_no_weight figures code senior months thickness))
    where
      by_test : (t : Bool) → (t ≡ false → weight_by code ≡ 0) → pick (map weight_by (cond t (code ∷ []) [])) ≡ weight_by code
      by_test true none = pick_one (weight_by code)
      by_test false none = sym (none refl)

  -- one rating or two: the higher weight. So a tranche with no more than two keeps the weight that 01 gives it, the highest of all
  pub fewer_than_three :
      (first second third : ℕ) → length (ratings_among (first ∷ second ∷ third ∷ [])) < 3 →
      by_ratings first second third ≡ max (weight_by first) (max (weight_by second) (weight_by third))
  unfolding weight_by_ratings
  fewer_than_three = pick_of_fewer weight_by (λ code. no_rating_no_weight figures code senior months thickness)

  -- "with three, the two lowest weights are picked and the higher of these counts": the middle one
  pub three_ratings :
      (first second third : ℕ) → 3 ≤ length (ratings_among (first ∷ second ∷ third ∷ [])) →
      by_ratings first second third ≡ min (max (weight_by first) (min (weight_by second) (weight_by third))) (max (weight_by second) (weight_by third))
  unfolding weight_by_ratings
  three_ratings = pick_of_three weight_by (λ code. no_rating_no_weight figures code senior months thickness)

  -- the order of the three rating words does not matter
  pub order_of_ratings :
      (first second third a b c : ℕ) → Perm (first ∷ second ∷ third ∷ []) (a ∷ b ∷ c ∷ []) → ends first second third ≡ ends a b c
  unfolding weight_by_ratings low_weight_by_ratings
  order_of_ratings first second third a b c p =
      rw (pick_permuted (Perm.map weight_by (ratings_permuted p)), pick_permuted (Perm.map exact_by (ratings_permuted p)))

  -- the weight is that by one of the ratings, where there is one
  pub one_rating_counts :
      (first second third : ℕ) → 1 ≤ length (ratings_among (first ∷ second ∷ third ∷ [])) →
      Mem (by_ratings first second third) (map weight_by (ratings_among (first ∷ second ∷ third ∷ [])))
  unfolding weight_by_ratings
  one_rating_counts first second third = of_some (ratings_among (first ∷ second ∷ third ∷ []))
    where
      of_some : (codes : List ℕ) → 1 ≤ length codes → Mem (pick (map weight_by codes)) (map weight_by codes)
      of_some [] some = absurd (omega arith)
      of_some (code ∷ others) some = pick_is_one (weight_by code) (map weight_by others)

  -- each weight is rounded before they are compared; the exact weights, compared and then rounded, give the same
  pub pick_then_rounded :
      (first second third : ℕ) →
      by_ratings first second third ≡ rounded_up (pick (map exact_by (ratings_among (first ∷ second ∷ third ∷ [])))) exact_parts
  unfolding weight_by_ratings weight_by_rating
  pick_then_rounded first second third = of_codes (ratings_among (first ∷ second ∷ third ∷ []))
    where
      of_codes : (codes : List ℕ) → pick (map weight_by codes) ≡ rounded_up (pick (map exact_by codes)) exact_parts
      of_codes [] = sym (rounded_up_zero exact_parts)
      of_codes (code ∷ others) =
          ap pick (sym (map-map (λ w. rounded_up w exact_parts) exact_by (code ∷ others))) ∙
          pick_of_rising (λ w. rounded_up w exact_parts) (λ w v. rounded_up_monotone w v exact_parts) (exact_by code) (map exact_by others)

  -- so both ends are those of the one exact weight that is picked, rounded down and rounded up,
  pub ends_of_pick :
      (first second third : ℕ) →
      ends first second third ≡ rounded (pick (map exact_by (ratings_among (first ∷ second ∷ third ∷ [])))) exact_parts
  unfolding low_weight_by_ratings
  ends_of_pick first second third = rw (pick_then_rounded first second third)

  -- at most 1 apart
  pub ends_within : (first second third : ℕ) → EndsWithin 1 (ends first second third)
  ends_within first second third = rw (ends_of_pick first second third) (rounded_within _ exact_parts)

  -- the exact weights, of which the highest or the middle one counts
  pub fewer_than_three_rounded :
      (first second third : ℕ) → length (ratings_among (first ∷ second ∷ third ∷ [])) < 3 →
      ends first second third ≡ rounded (max (exact_by first) (max (exact_by second) (exact_by third))) exact_parts
  fewer_than_three_rounded first second third few =
      ends_of_pick first second third ∙
      ap (λ (w : ℕ). rounded w exact_parts)
      (pick_of_fewer exact_by (λ code. no_rating_no_exact figures code senior months thickness) first second third few)

  pub three_ratings_rounded :
      (first second third : ℕ) → 3 ≤ length (ratings_among (first ∷ second ∷ third ∷ [])) →
      ends first second third ≡
      rounded (min (max (exact_by first) (min (exact_by second) (exact_by third))) (max (exact_by second) (exact_by third))) exact_parts
  three_ratings_rounded first second third many =
      ends_of_pick first second third ∙
      ap (λ (w : ℕ). rounded w exact_parts)
      (pick_of_three exact_by (λ code. no_rating_no_exact figures code senior months thickness) first second third many)

pub weight_by_ratings_at_most :
    (figures : RatingFigures) → T (figures_at_most 1250 figures) → (first second third : ℕ) (senior : Bool) (months thickness : ℕ) →
    weight_by_ratings figures first second third senior months thickness ≤ 125000
unfolding weight_by_ratings
weight_by_ratings_at_most figures t first second third senior months thickness =
    let weights = weight_by figures senior months thickness in
    let codes = ratings_among (first ∷ second ∷ third ∷ []) in
    pick_at_most 125000 (map weights codes)
    (each_value (λ w. w ≤ 125000) weights (λ code. weight_by_rating_at_most figures t code senior months thickness) codes)
