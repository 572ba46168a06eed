-- `rewritten_word`: the count, a fact, or the word past the facts that has moved with its section. No axioms.
use mathlib.Core.Path.{◌≡◌, sym, ◌∙◌}
use native.Mathlib.Omega.{arith}
use borrow.Author.Rules.{rules}
use Rattle.judgement.proofs.LayoutLaws.{hundredths_is}
use Rattle.judgement.proofs.SheetLimits.{facts_within, facts_counted, fact_there}
use Rattle.conversion.proofs.RewrittenLaws.{first_rewritten, from_within, past_facts, weight_word_most}
use Rattle.conversion.proofs.rewritten_word.Goals as goal

pub returns-then-p-eq0 : goal.returns-then-p-eq0
returns-then-p-eq0 c =
    let first : c.args.p ≡ 0 = omega arith in
    rw first (sym (first_rewritten _ c.args.sheet.now.laid_out.good))

pub bounds-sheet-0 : goal.bounds-sheet-0
bounds-sheet-0 c = fact_there _ 0 c.args.sheet.now.laid_out.good (omega arith)

pub overflow_sub-from : goal.overflow_sub-from
overflow_sub-from c = omega (arith, facts_within _ (facts_counted _ c.args.sheet.now.laid_out.good))

pub offset_bounds-sheet-from : goal.offset_bounds-sheet-from
offset_bounds-sheet-from c =
    search (rules, (from_within _ c.args.sheet.now.laid_out.good c.args.p (omega arith) c.requires).1.0)

pub bounds-sheet-from : goal.bounds-sheet-from
bounds-sheet-from c =
    (from_within _ c.args.sheet.now.laid_out.good c.args.p (omega arith) c.requires).1.0

pub other_weight-requires : goal.other_weight-requires
other_weight-requires c =
    weight_word_most _ _ c.args.sheet.now.laid_out.good (sym c.is_weight.ensures ∙ c.if-is_weight.true)

pub returns-then-is_weight : goal.returns-then-is_weight
returns-then-is_weight c =
    let sheet = c.args.sheet.now.laid_out in
    c.other_weight.ensures ∙
    rw (hundredths_is _ _ sheet)
    (sym
    (past_facts _ sheet.good c.args.p (omega arith) c.requires ∙
    rw (sym c.is_weight.ensures ∙ c.if-is_weight.true)))

pub returns-else-is_weight : goal.returns-else-is_weight
returns-else-is_weight c =
    sym
    (past_facts _ c.args.sheet.now.laid_out.good c.args.p (omega arith) c.requires ∙
    rw (sym c.is_weight.ensures ∙ c.if-is_weight.false))
