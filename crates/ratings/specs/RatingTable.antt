-- 01, "The rating table", with S-1 of 02, "STC deals", S-2, "Paper with three ratings", and S-6, "Both ends in the report" (source document 001: CRE42.2 for short-term grades, CRE42.4 for the
-- table, CRE42.5 for maturity and thickness, CRE42.7 for the comparison with the senior figure, CRE42.8 (4), which refers to CRE21.6 to CRE21.8, for several ratings;
-- CRE42.12 to CRE42.14 in place of CRE42.2, CRE42.4 and CRE42.7 for STC deals, by CRE42.11; CRE40.22 and CRE40.23 for the tranche maturity). Figures are in percent, a
-- weight in hundredths of a percent, a thickness in millionths; months are those of the final legal maturity.
use Rattle.std.specs.Prelude.{Bool, true, false, cond, List, [], ◌∷◌, map, ℕ, ◌+◌, ◌*◌, ◌-◌, ◌/◌, min, max, get_or, take}
use Rattle.numbers.specs.Rounding.{rounded_up}
use Rattle.numbers.specs.declared.Ends.{Ends}
use Rattle.rating_codes.specs.RatingCodes.{long_term, short_term, ratings_among}

-- ---- the figures from which the weight by a rating is worked out. 02, S-1: "What is shown of rows and maturities is shown once for any table of 18 rows.": what
-- follows, and its laws (proofs/TableLaws.antt), are over any figures of this form.

-- A row for each long-term grade, "Senior 1 year, senior 5 years, non-senior 1 year, non-senior 5 years"; a figure for each short-term grade; and
-- whether a non-senior weight is compared with the senior figure
pub record RatingFigures : Type 0 where
  pub long_term_figures : List (List ℕ)
  pub short_term_figures : List ℕ
  pub compared : Bool

-- CRE42.4, Table 2
abbrev pub rating_table : List (List ℕ)
rating_table =
    (15 ∷ 20 ∷ 15 ∷ 70 ∷ []) ∷
    (15 ∷ 30 ∷ 15 ∷ 90 ∷ []) ∷
    (25 ∷ 40 ∷ 30 ∷ 120 ∷ []) ∷
    (30 ∷ 45 ∷ 40 ∷ 140 ∷ []) ∷
    (40 ∷ 50 ∷ 60 ∷ 160 ∷ []) ∷
    (50 ∷ 65 ∷ 80 ∷ 180 ∷ []) ∷
    (60 ∷ 70 ∷ 120 ∷ 210 ∷ []) ∷
    (75 ∷ 90 ∷ 170 ∷ 260 ∷ []) ∷
    (90 ∷ 105 ∷ 220 ∷ 310 ∷ []) ∷
    (120 ∷ 140 ∷ 330 ∷ 420 ∷ []) ∷
    (140 ∷ 160 ∷ 470 ∷ 580 ∷ []) ∷
    (160 ∷ 180 ∷ 620 ∷ 760 ∷ []) ∷
    (200 ∷ 225 ∷ 750 ∷ 860 ∷ []) ∷
    (250 ∷ 280 ∷ 900 ∷ 950 ∷ []) ∷
    (310 ∷ 340 ∷ 1050 ∷ 1050 ∷ []) ∷
    (380 ∷ 420 ∷ 1130 ∷ 1130 ∷ []) ∷
    (460 ∷ 505 ∷ 1250 ∷ 1250 ∷ []) ∷
    (1250 ∷ 1250 ∷ 1250 ∷ 1250 ∷ []) ∷ []

-- CRE42.13, Table 4
abbrev pub stc_rating_table : List (List ℕ)
stc_rating_table =
    (10 ∷ 10 ∷ 15 ∷ 40 ∷ []) ∷
    (10 ∷ 15 ∷ 15 ∷ 55 ∷ []) ∷
    (15 ∷ 20 ∷ 15 ∷ 70 ∷ []) ∷
    (15 ∷ 25 ∷ 25 ∷ 80 ∷ []) ∷
    (20 ∷ 30 ∷ 35 ∷ 95 ∷ []) ∷
    (30 ∷ 40 ∷ 60 ∷ 135 ∷ []) ∷
    (35 ∷ 40 ∷ 95 ∷ 170 ∷ []) ∷
    (45 ∷ 55 ∷ 150 ∷ 225 ∷ []) ∷
    (55 ∷ 65 ∷ 180 ∷ 255 ∷ []) ∷
    (70 ∷ 85 ∷ 270 ∷ 345 ∷ []) ∷
    (120 ∷ 135 ∷ 405 ∷ 500 ∷ []) ∷
    (135 ∷ 155 ∷ 535 ∷ 655 ∷ []) ∷
    (170 ∷ 195 ∷ 645 ∷ 740 ∷ []) ∷
    (225 ∷ 250 ∷ 810 ∷ 855 ∷ []) ∷
    (280 ∷ 305 ∷ 945 ∷ 945 ∷ []) ∷
    (340 ∷ 380 ∷ 1015 ∷ 1015 ∷ []) ∷
    (415 ∷ 455 ∷ 1250 ∷ 1250 ∷ []) ∷
    (1250 ∷ 1250 ∷ 1250 ∷ 1250 ∷ []) ∷ []

-- Tables 1 and 2. "Short-term 21 to 24: 15, 50, 100, 1250"
abbrev pub ordinary_figures : RatingFigures
ordinary_figures = record {
  long_term_figures = rating_table;
  short_term_figures = 15 ∷ 50 ∷ 100 ∷ 1250 ∷ [];
  compared = true;
}

-- Tables 3 (CRE42.12, the short-term grades) and 4. "CRE42.14 has no comparison with the senior figure, so an STC non-senior weight is not raised to it."
abbrev pub stc_figures : RatingFigures
stc_figures = record {
  long_term_figures = stc_rating_table;
  short_term_figures = 10 ∷ 30 ∷ 60 ∷ 1250 ∷ [];
  compared = false;
}

-- by the STC mark: "STC deals use the second table of source document 001 (Tables 3 and 4)"
abbrev pub figures_of : Bool → RatingFigures
figures_of stc = cond stc stc_figures ordinary_figures

-- the figure of a table at a grade, counted from 1, and a column, counted from 0
abbrev pub figure : List (List ℕ) → ℕ → ℕ → ℕ
figure table grade column = get_or (get_or table (grade - 1) []) column 0

-- ---- "Tranche maturity in fifths of a month is 4 × months + 12, held within 60 and 300 (80% rule of CRE40)."

abbrev pub maturity_fifths : ℕ → ℕ
maturity_fifths months = max 60 (min 300 (4 * months + 12))

-- ---- the weight by one rating

-- "Weights run linearly from 60 to 300": 240 times the percentage at a maturity, from the figure at 1 year (60) to that at 5 years (300)
abbrev pub linear : ℕ → ℕ → ℕ → ℕ
linear one five fifths = one * (300 - fifths) + five * (fifths - 60)

abbrev pub senior_linear : List (List ℕ) → ℕ → ℕ → ℕ
senior_linear table grade fifths = linear (figure table grade 0) (figure table grade 1) fifths

abbrev pub non_senior_linear : List (List ℕ) → ℕ → ℕ → ℕ
non_senior_linear table grade fifths = linear (figure table grade 2) (figure table grade 3) fifths

-- the divisor of exact weights, which is common to all of them: 240 for the maturity, 10^6 for the thickness
abbrev pub exact_parts : ℕ
exact_parts = 240000000

-- a non-senior weight beside the senior one: where the two are compared, "then no lower than the senior figure of that rating and maturity" (CRE42.7);
-- elsewhere its own (CRE42.14)
abbrev pub beside_senior : Bool → ℕ → ℕ → ℕ
beside_senior compared own senior = cond compared (max own senior) own

-- the exact weight by a long-term grade, times exact_parts. "Non-senior: times (1 − min(D − A, one half))"
abbrev pub long_term_exact : RatingFigures → ℕ → Bool → ℕ → ℕ → ℕ
long_term_exact figures grade senior fifths thickness =
    let least = senior_linear figures.long_term_figures grade fifths * 1000000 in
    let own = non_senior_linear figures.long_term_figures grade fifths * (1000000 - min thickness 500000) in
    100 * cond senior least (beside_senior figures.compared own least)

-- "Short-term 21 to 24: ..., unadjusted": no maturity, no thickness, no comparison
abbrev pub short_term_exact : RatingFigures → ℕ → ℕ
short_term_exact figures code = 100 * get_or figures.short_term_figures (code - 21) 0 * exact_parts

-- the exact weight by a code, times exact_parts; 0 where the code is no rating
unfoldable pub exact_weight : RatingFigures → ℕ → Bool → ℕ → ℕ → ℕ
exact_weight figures code senior months thickness =
    cond (long_term code) (long_term_exact figures code senior (maturity_fifths months) thickness)
    (cond (short_term code) (short_term_exact figures code) 0)

-- "Rounded up once."
unfoldable pub weight_by_rating : RatingFigures → ℕ → Bool → ℕ → ℕ → ℕ
weight_by_rating figures code senior months thickness = rounded_up (exact_weight figures code senior months thickness) exact_parts

-- ---- several ratings (02, S-2). "By CRE21, two ratings still give the higher weight; with three, the two lowest weights are picked and the higher of these
-- counts. [...] This replaces 01's highest weight."

-- a number inserted among numbers in ascending order: the lower of it and the first of them comes first, the higher is inserted among the others
abbrev pub insert_ascending : ℕ → List ℕ → List ℕ
insert_ascending n [] = n ∷ []
insert_ascending n (first ∷ others) = min n first ∷ insert_ascending (max n first) others

-- numbers in ascending order; equal ones stand side by side
abbrev pub ascending : List ℕ → List ℕ
ascending [] = []
ascending (n ∷ others) = insert_ascending n (ascending others)

-- the highest of some numbers; 0 where there is none
abbrev pub highest : List ℕ → ℕ
highest [] = 0
highest (n ∷ others) = max n (highest others)

-- the weight that counts among those by each rating: "the two lowest weights are picked and the higher of these counts". Of two weights both are picked, so that
-- the higher counts, and one rating's own weight counts
abbrev pub pick : List ℕ → ℕ
pick weights = highest (take 2 (ascending weights))

-- "The weight by each rating is worked out in full before they are compared.": the weight by a tranche's three rating words, by the pick among those of the words that
-- are ratings; a word that is none is left out and counts as no weight. 0 where none is a rating
unfoldable pub weight_by_ratings : RatingFigures → ℕ → ℕ → ℕ → Bool → ℕ → ℕ → ℕ
weight_by_ratings figures first second third senior months thickness =
    pick (map (λ code. weight_by_rating figures code senior months thickness) (ratings_among (first ∷ second ∷ third ∷ [])))

-- ---- both ends (02, S-6)

-- "for table weights it starts from the exact figure rounded down, S-2 then picking among the exact figures"
unfoldable pub low_weight_by_ratings : RatingFigures → ℕ → ℕ → ℕ → Bool → ℕ → ℕ → ℕ
low_weight_by_ratings figures first second third senior months thickness =
    pick (map (λ code. exact_weight figures code senior months thickness) (ratings_among (first ∷ second ∷ third ∷ []))) / exact_parts

-- that number and the weight
abbrev pub ends_by_ratings : RatingFigures → ℕ → ℕ → ℕ → Bool → ℕ → ℕ → Ends
ends_by_ratings figures first second third senior months thickness = record {
  low = low_weight_by_ratings figures first second third senior months thickness;
  high = weight_by_ratings figures first second third senior months thickness;
}
