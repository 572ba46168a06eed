-- 01, "The deal sheet" and "Which approach, then floor, then cap", and 02, S-1, S-5, S-6 and S-8: what the tranches of a sheet share, what each is weighed by, and the line that they
-- make.
use Rattle.std.specs.Prelude.{Bool, cond, List, [], ◌∷◌, ℕ, ◌*◌, eqb}
use Rattle.numbers.specs.Rounding.{rounded_up}
use Rattle.weights.specs.ApproachFloorCap.{approach, weight}
use Rattle.weights.specs.declared.Terms.{Terms}
use Rattle.weights.specs.declared.Tranche.{Tranche}
use Rattle.irba.specs.IrbaDeals.{irba_applies}
use Rattle.charge.specs.Figures.{pool_figures, mixed_figures}
use Rattle.charge.specs.declared.Figures.{Figures}
use Rattle.charge.specs.declared.Sums.{Sums}
use Rattle.judgement.specs.DealSheet.{class, months, held, layout}
use Rattle.judgement.specs.declared.Layout.{Layout}
use Rattle.pool.specs.PoolSums.{pool_sums}
use Rattle.deal.specs.InferredRatings.{own_ratings, rating_row}
use Rattle.deal.specs.Points.{attachment_point, detachment_point}
use Rattle.deal.specs.declared.Line.{Line}

-- ---- what the tranches share, and what each is weighed by

-- whether approach 3 applies to the deal
abbrev pub irba_for : Layout → Bool
irba_for l = irba_applies l.diligence l.resecuritisation l.kind l.irb.share

-- "The answer's charge is this one under approach 3, else 01's", and so is the average
abbrev pub figures_for : Layout → Sums → Figures
figures_for l q = cond (irba_for l) (mixed_figures l.irb q) (pool_figures q)

-- what the tranches of a deal share, from the sheet's facts (with S-1 of 02 the STC mark), its IRB section (S-5) and its pool's sums
abbrev pub terms_for : Layout → Sums → Terms
terms_for l q = record {
  diligence = l.diligence;
  resecuritisation = l.resecuritisation;
  stc = l.stc;
  composition = l.composition;
  irba = irba_for l;
  known = (figures_for l q).known;
  charge = (figures_for l q).charge;
  average = (figures_for l q).average;
  irb = l.irb;
}

unfoldable pub terms : List ℕ → Terms
terms s = terms_for (layout s) (pool_sums s)

-- what a tranche is weighed by: its own points, class ("Class 1 is the senior class."), months and held amount, and the ratings that count for it. S-8: "It takes that row's ratings, with its
-- own class, maturity and thickness."
unfoldable pub tranche : List ℕ → ℕ → Tranche
tranche s i = record {
  attachment = attachment_point s i;
  detachment = detachment_point s i;
  senior = eqb (class s i) 1;
  months = months s i;
  held = held s i;
  ratings = own_ratings s (rating_row (terms s) s i);
}

-- ---- amounts

-- "Risk-weighted amount: held × weight / 10,000, rounded up."
abbrev pub risk_weighted_amount : ℕ → ℕ → ℕ
risk_weighted_amount heldAmount w = rounded_up (heldAmount * w) 10000

-- "Capital: held × weight × 8 / 10^6, rounded up."
abbrev pub capital : ℕ → ℕ → ℕ
capital heldAmount w = rounded_up (heldAmount * w * 8) 1000000

-- ---- the line: "approach (0 fallback, 1 SEC-ERBA, 2 SEC-SA), A, D, weight, risk-weighted amount, capital"; S-5's "approach 3"; S-6: "Each tranche gets a
-- seventh word.", which is the low end of the weight. Both amounts are by the fourth word

unfoldable pub line : Tranche → Terms → Line
line t d = record {
  approach = approach t d;
  attachment = t.attachment;
  detachment = t.detachment;
  weight = (weight t d).high;
  rwa = risk_weighted_amount t.held (weight t d).high;
  capital = capital t.held (weight t d).high;
  low = (weight t d).low;
}

abbrev pub words_of : Line → List ℕ
words_of l = l.approach ∷ l.attachment ∷ l.detachment ∷ l.weight ∷ l.rwa ∷ l.capital ∷ l.low ∷ []

unfoldable pub line_words : Tranche → Terms → List ℕ
line_words t d = words_of (line t d)
