-- `read_words`: before each turn the scan stands at its place in the text, and the words read are stored. No axioms.
use mathlib.Core.List.{[]}
use mathlib.Core.Path.{◌≡◌, refl, ◌∙◌, sym}
use native.Mathlib.Omega.{arith}
use lib.ListN.{length}
use Rattle.std.proofs.lemmas.Result.{err_from_is_err_and}
use Rattle.sheet_text.specs.SheetText.{tokens}
use Rattle.sheet_text.proofs.ScanLaws.{scan_begins, white_met, past_character_lem, past_white_lem, text_ends}
use Rattle.sheet_text.proofs.tokens.read_words.Goals.{then-white+in_ok-count, else-white}
use Rattle.sheet_text.proofs.tokens.read_words.Goals as goal

pub loop-character-init : goal.loop-character-init
loop-character-init c = (refl, scan_begins _ _)

pub returns-in_err-count : goal.returns-in_err-count
returns-in_err-count c =
    let here = c.loop-character.invariant.0 in
    let r = c.loop-character.invariant.1 in
    let within = c.loop-character-test.true in
    let goes = c.comment_after-comment.ensures in
    let white = sym c.white.ensures ∙ c.if-white.true in
    let p = err_from_is_err_and c.from_residual.result c.from_residual.ensures.1 in
    rw (p.1, p.2)
    (c.in_err-count.ensures _ _ r.begun r.sums
    (white_met _ _ _ c.loop-character.s _ _ here within c.seen-b.ensures goes _ r white))

pub loop-character-preserved : goal.loop-character-preserved
loop-character-preserved c =
    let s = c.loop-character.s in
    let here = c.loop-character.invariant.0 in
    let r = c.loop-character.invariant.1 in
    let within = c.loop-character-test.true in
    let read = c.seen-b.ensures in
    let goes = c.comment_after-comment.ensures in
    elim c.if-white.branch [
      | then-white+in_ok-count w ↦
          let white = sym c.white.ensures ∙ w.if-white.true in
          let ends = w.in_ok-count.ensures _ _ r.begun r.sums (white_met _ _ _ s _ _ here within read goes _ r white) in
          rw (w.s-is, w.words-is, w.past_white-s.ensures)
          (omega arith, past_white_lem _ _ s c.seen-b.result _ _ (omega arith) ends.0 ends.1)
      | else-white w ↦
          let not_white = sym c.white.ensures ∙ w.if-white.false in
          rw (w.s-is, w.words-is, w.past_character-s.ensures)
          (omega arith, past_character_lem _ _ _ s _ _ here within read goes _ r not_white)
    ]

pub returns : goal.returns
returns c =
    let text = c.args.text.now in
    let s = c.loop-character.s in
    let r = c.loop-character.invariant.1 in
    let whole : s.at ≡ length text = omega arith in
    rw (← whole) (c.end_token-2.ensures (tokens text) [] r.begun r.sums (text_ends text _ s _ r (omega arith)))
