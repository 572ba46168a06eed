-- `Rules::judge`: before each turn the words before its place are sound. No axioms.
use mathlib.Core.Path.{refl, sym, ◌∙◌}
use Prim.Native.Nat.{◌+◌}
use native.Mathlib.Omega.{arith}
use Rattle.std.proofs.lemmas.Result.{err_from_is_err_and}
use Rattle.amendment.proofs.AmendmentSteps.{none_judged, next_judged, refusal_stays, more_words, all_good}
use Rattle.amendment.proofs.Rules.judge.Goals as goal

pub loop-p-init : goal.loop-p-init
loop-p-init c = let x = c.args.self in none_judged x.resecuritised x.hundredths x.rows c.args.m.now

pub returns-in_err-judge_word : goal.returns-in_err-judge_word
returns-in_err-judge_word c =
    let x = c.args.self in
    let exit = err_from_is_err_and c.from_residual.result c.from_residual.ensures.1 in
    let here = next_judged x.resecuritised x.hundredths x.rows c.args.m.now c.loop-p.p c.loop-p.invariant (c.in_err-judge_word.ensures ∙ simp (c.fault.ensures, c.word_at.ensures)) in
    refusal_stays x.resecuritised x.hundredths x.rows c.args.m.now (c.loop-p.p + 1) (rw (exit.1, exit.2) refl) here (omega arith)

pub loop-p-preserved : goal.loop-p-preserved
loop-p-preserved c =
    let x = c.args.self in
    sym (next_judged x.resecuritised x.hundredths x.rows c.args.m.now c.loop-p.p c.loop-p.invariant (c.in_ok-judge_word.ensures ∙ simp (c.fault.ensures, c.word_at.ensures)))

pub returns-then-m-gt-AMENDMENT_SIZE : goal.returns-then-m-gt-AMENDMENT_SIZE
returns-then-m-gt-AMENDMENT_SIZE c = more_words _ _ _ _ _ c.loop-p.invariant (omega arith) (omega arith)

pub returns : goal.returns
returns c = all_good _ _ _ _ _ c.loop-p.invariant (omega arith) (omega arith)
