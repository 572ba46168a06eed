-- `put_row`: before each turn the words of the columns before it are written. No axioms.
use native.Mathlib.Omega.{arith}
use mathlib.Core.Path.{◌≡◌, sym, ap, ◌∙◌}
use Prim.Native.Nat.{ℕ, ◌+◌, ◌<◌}
use native.Mathlib.Numerals.{add-one}
use Rattle.std.proofs.lemmas.Grind.{get_or_after_one}
use lib.ListN.{length, take, drop, get_or, length-drop}
use lib.Seq.{sets, take_all}
use Rattle.amendment.proofs.StoredRow.{one_more_stored}
use Rattle.amendment.proofs.put_row.Goals as goal

pub loop-column-preserved : goal.loop-column-preserved
loop-column-preserved c =
    let m = c.args.m.now in
    let k = c.loop-column.column in
    let there : k < length (drop 1 m) = omega (arith, length-drop 1 m) in
    let word : get_or m (1 + k) 0 ≡ get_or (drop 1 m) k 0 = sym (get_or_after_one m k 0) in
    rw (c.loop-column.invariant, word, add-one) (one_more_stored (drop 1 m) c.args.sheet.now c.args.at k there)

pub returns : goal.returns
returns c =
    let s = c.args.sheet.now in
    let m = c.args.m.now in
    let all : c.loop-column.column ≡ 4 = omega arith in
    let whole : take 4 (drop 1 m) ≡ drop 1 m = take_all 4 (drop 1 m) (omega (arith, length-drop 1 m)) in
    c.loop-column.invariant ∙ ap (λ (n : ℕ). sets s c.args.at (take n (drop 1 m))) all ∙ ap (sets s c.args.at) whole
