-- `weigh_file`: a bad length is refused; else the words that were loaded are weighed. No axioms.
use mathlib.Core.Bool.{true}
use mathlib.Core.Path.{◌≡◌, refl, sym, ◌∙◌}
use Rattle.files.specs.FileForm.{good_length}
use Rattle.deal_file.proofs.FileAnswerLaws.{bad_length_refused, words_weighed}
use Rattle.deal_file.proofs.weigh_file.Goals.{Else-not-load}
use Rattle.deal_file.proofs.weigh_file.Goals as goal

-- behind the first test
good : (c : Else-not-load) → good_length c.args.file.now ≡ true
good c = sym c.load.ensures.value ∙ c.if-not-load.false

pub returns-then-not-load : goal.returns-then-not-load
returns-then-not-load c =
    let x = c.args in
    let both = bad_length_refused x.file.now x.results.now (sym c.load.ensures.value ∙ c.if-not-load.true) refl in
    record { result_value = both.0; results_after = both.1.0; file_keeps_demand_three = both.1.1.0; file_keeps_seventh_word = both.1.1.1 }

pub returns : goal.returns
returns c =
    let x = c.args in
    let w = c.weigh.ensures in
    let both = words_weighed x.file.now _ x.results.now _ (good (goal.at.returns c).Else-not-load) c.load.ensures.words_after (w.result_value, (w.results_after, (w.keeps_demand_three, w.keeps_seventh_word))) in
    record { result_value = both.0; results_after = both.1.0; file_keeps_demand_three = both.1.1.0; file_keeps_seventh_word = both.1.1.1 }
