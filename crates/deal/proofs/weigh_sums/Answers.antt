-- `weigh_sums`: the layout that is read is the sheet's, the sums are those of the words, and the terms are the sheet's.
-- No axioms.
use mathlib.Core.Path.{◌≡◌, sym, ap, subst, ◌∙◌}
use Rattle.charge.specs.declared.Sums.{Sums}
use Rattle.judgement.specs.DealSheet.{layout}
use Rattle.judgement.specs.LaidOut.{LaidOut}
use Rattle.pool.specs.SummedPool.{OpenPool, OpenedPool}
use Rattle.pool.proofs.PoolLaws.{sum_limits}
use Rattle.pool.proofs.SummedPoolLaw.{open_read}
use Rattle.weights.specs.declared.Terms.{Terms}
use Rattle.deal.specs.Lines.{terms}
use Rattle.deal.proofs.TermsLaws.{irb_limits}
use Rattle.deal.proofs.WeighSteps.{open_laid_out, open_terms}
use Rattle.deal.proofs.weigh_sums.Goals.{After-read_layout, After-terms_of-terms}
use Rattle.deal.proofs.weigh_sums.Goals as goal

opened : (c : After-read_layout) → OpenPool c.args.sheet.now c.read_layout.result c.sums_of-q.result
opened c = open_read _ _ _ (subst (OpenedPool c.args.sheet.now) (sym c.sums_of-q.ensures) c.requires) c.read_layout.ensures

laid : (c : After-read_layout) → LaidOut c.args.sheet.now c.read_layout.result
laid c = open_laid_out _ _ _ (opened c)

terms_are : (c : After-terms_of-terms) → c.terms_of-terms.result ≡ terms c.args.sheet.now
terms_are c =
    let pool = open_read _ _ _ (subst (OpenedPool c.args.sheet.now) (sym c.sums_of-q.ensures) c.requires) c.read_layout.ensures in
    c.terms_of-terms.ensures ∙ open_terms _ _ _ pool

pub invariant_of-sheet : goal.invariant_of-sheet
invariant_of-sheet c = record { laid_out = laid (goal.at.invariant_of-sheet c).After-read_layout }

pub terms_of-terms-requires : goal.terms_of-terms-requires
unfolding layout
terms_of-terms-requires c =
    let pool = opened (goal.at.terms_of-terms-requires c).After-read_layout in
    let good = (laid (goal.at.terms_of-terms-requires c).After-read_layout).good in
    (rw pool.are_sums (sum_limits c.args.sheet.now good), rw pool.is_layout (irb_limits c.args.sheet.now good))

pub weigh_tranches-requires : goal.weigh_tranches-requires
weigh_tranches-requires c =
    let pool = opened (goal.at.weigh_tranches-requires c).After-read_layout in
    (pool.sound, terms_are (goal.at.weigh_tranches-requires c).After-terms_of-terms, ap (λ (q : Sums). q.all.nominal) pool.are_sums)

pub returns-clause-charge_value : goal.returns-clause-charge_value
returns-clause-charge_value c = ap (λ (d : Terms). d.charge) (terms_are (goal.at.returns-clause-charge_value c).After-terms_of-terms)
