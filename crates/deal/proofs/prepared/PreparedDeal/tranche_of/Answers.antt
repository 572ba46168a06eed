-- `tranche_of`: each word is read from its own place, the ratings from the row that counts, the months are by the
-- sheet's reporting date, and the points are those between the class after it and its own, which the table holds. No
-- axioms.
use mathlib.Core.List.{List}
use mathlib.Core.Path.{◌≡◌, ◌∙◌}
use Prim.Native.Nat.{ℕ, ◌+◌, ◌≤◌, ◌<◌}
use native.Mathlib.Omega.{arith}
use lib.Dec.{eqb}
use lib.ListN.{get_or}
use Rattle.judgement.specs.DealSheet.{tranche_count, class, months, held}
use Rattle.judgement.proofs.LayoutLaws.{reporting_date_is}
use Rattle.judgement.proofs.SheetLimits.{class_within}
use Rattle.rating_codes.specs.declared.Ratings.{Ratings}
use Rattle.weights.specs.declared.Tranche.{Tranche}
use Rattle.deal.specs.Points.{attachment_point, detachment_point}
use Rattle.deal.specs.InferredRatings.{own_ratings, rating_row}
use Rattle.deal.specs.Lines.{terms, tranche}
use Rattle.deal.specs.ClassPoints.{ClassPoints}
use Rattle.deal.proofs.FewTranches.{few_tranches}
use Rattle.deal.proofs.InferredLaws.{rating_row_within}
use Rattle.deal.proofs.prepared.PreparedDeal.tranche_of.Goals.{After-maturity_months, After-rating_row-row, After-tranche_word-class}
use Rattle.deal.proofs.prepared.PreparedDeal.tranche_of.Goals as goal

-- what is made of the words read and of the table is the tranche
made :
    {points : List ℕ} (s : List ℕ) (i own m h row : ℕ) (r : Ratings) → ClassPoints s points → i < tranche_count s → own ≡ class s i →
    m ≡ months s i → h ≡ held s i → row ≡ rating_row (terms s) s i → r ≡ own_ratings s row →
    ◌≡◌ {A = Tranche}
    (record {
      attachment = get_or points (own + 1) 0;
      detachment = get_or points own 0;
      senior = eqb own 1;
      months = m;
      held = h;
      ratings = r;
    })
    (tranche s i)
unfolding tranche attachment_point detachment_point
made s i own m h row r table among own_is m-is h-is row_is r-is =
    rw (
      m-is,
      h-is,
      r-is,
      row_is,
      own_is,
      table.at_class i (class s i + 1) among (omega arith),
      table.at_class i (class s i) among (omega arith),
    )

class_low : (c : After-tranche_word-class) → c.tranche_word-class.result ≤ 32
class_low c =
    let s = c.args.self.now.sheet.now.words.now in
    omega (arith, c.tranche_word-class.ensures, (class_within s c.args.i c.args.self.now.sheet.now.laid_out.good c.requires).1, few_tranches c.args.self.now.sheet.now)

-- the row whose ratings count is one of the sheet's
counting_row : (c : After-rating_row-row) → c.rating_row-row.result < tranche_count c.args.self.now.sheet.now.words.now
counting_row c = omega (arith, c.rating_row-row.ensures, rating_row_within c.args.self.now.sheet.now.words.now c.args.i (terms c.args.self.now.sheet.now.words.now) c.requires)

-- the months are those of the maturity's word, by the layout's reporting date
own_months :
    (c : After-maturity_months) → c.maturity_months.result ≡ months c.args.self.now.sheet.now.words.now c.args.i
own_months c =
    c.maturity_months.ensures ∙
    rw (reporting_date_is c.args.self.now.sheet.now.words.now c.args.self.now.sheet.now.layout c.args.self.now.sheet.now.laid_out, c.tranche_word.ensures)

pub overflow_add-result : goal.overflow_add-result
overflow_add-result c = omega (arith, class_low (goal.at.overflow_add-result c).After-tranche_word-class)

pub offset_bounds-self-class : goal.offset_bounds-self-class
offset_bounds-self-class c = omega (arith, class_low (goal.at.offset_bounds-self-class c).After-tranche_word-class)

pub bounds-self-class : goal.bounds-self-class
bounds-self-class c = omega (arith, class_low (goal.at.bounds-self-class c).After-tranche_word-class)

pub offset_bounds-self-class-2 : goal.offset_bounds-self-class-2
offset_bounds-self-class-2 c = omega (arith, class_low (goal.at.offset_bounds-self-class-2 c).After-tranche_word-class)

pub bounds-self-class-2 : goal.bounds-self-class-2
bounds-self-class-2 c = omega (arith, class_low (goal.at.bounds-self-class-2 c).After-tranche_word-class)

pub ratings_at-requires : goal.ratings_at-requires
ratings_at-requires c = counting_row (goal.at.ratings_at-requires c).After-rating_row-row

pub returns : goal.returns
returns c =
    made c.args.self.now.sheet.now.words.now c.args.i _ _ _ _ _ c.args.self.now.its_points c.requires c.tranche_word-class.ensures
    (own_months (goal.at.returns c).After-maturity_months) c.tranche_word-2.ensures c.rating_row-row.ensures c.ratings_at.ensures
