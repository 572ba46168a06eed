-- The results with one line more: a run of stores behind the lines written so far. No axioms.
use mathlib.Core.List.{List, ◌++◌}
use mathlib.Core.Path.{◌≡◌, refl, ◌∙◌, sym, ap}
use Prim.Native.Nat.{ℕ, ◌+◌, ◌*◌, ◌≤◌}
use native.Mathlib.Numerals.{add-one}
use native.Mathlib.Omega.{arith}
use lib.ListN.{length, drop, length-append, length-drop}
use lib.Seq.{sets, sets-eq, take_at, drop-append-add, drop-drop}
use Rattle.limits.specs.SheetSize.{line_size}
use Rattle.deal.specs.Lines.{terms, tranche, line, words_of, line_words}
use Rattle.deal.specs.Results.{lines}
use Rattle.deal.specs.declared.Line.{Line}
use Rattle.deal.proofs.LineLaws.{length_line, length_lines}

-- stores behind a list keep it, and replace as many words of what follows
stored_behind :
    (xs ys ws : List ℕ) (n m : ℕ) → length xs ≡ n → length ws ≡ m → m ≤ length ys →
    sets (xs ++ ys) n ws ≡ xs ++ ws ++ drop m ys
stored_behind xs ys ws n m e f h =
    sets-eq ws (xs ++ ys) n (omega (arith, length-append xs ys)) ∙
    ap (λ (l : List ℕ). l ++ ws ++ drop (n + length ws) (xs ++ ys)) (take_at xs ys n e) ∙
    ap (λ (l : List ℕ). xs ++ ws ++ l) (rw (← e, f) (drop-append-add xs ys m))

pub lines_none : (s old : List ℕ) → old ≡ lines s 0 ++ old
unfolding lines
lines_none s old = refl

-- the results keep their length
pub length_so_far : (s old : List ℕ) (i : ℕ) → line_size * i ≤ length old → length (lines s i ++ drop (line_size * i) old) ≡ length old
length_so_far s old i h = omega (arith, length-append (lines s i) (drop (line_size * i) old), length_lines s i, length-drop (line_size * i) old)

lines_next : (s : List ℕ) (i : ℕ) → lines s (i + 1) ≡ lines s i ++ line_words (tranche s i) (terms s)
unfolding lines
lines_next s i = rw add-one

line_written :
    (s old : List ℕ) (i : ℕ) → line_size * i + line_size ≤ length old →
    sets (lines s i ++ drop (line_size * i) old) (line_size * i) (line_words (tranche s i) (terms s)) ≡ lines s (i + 1) ++ drop (line_size * (i + 1)) old
line_written s old i h =
    let past : line_size * i + line_size ≡ line_size * (i + 1) = omega arith in
    stored_behind (lines s i) (drop (line_size * i) old) (line_words (tranche s i) (terms s)) (line_size * i) line_size (length_lines s i)
    (length_line (tranche s i) (terms s)) (omega (arith, length-drop (line_size * i) old)) ∙
    ap (λ (l : List ℕ). (lines s i ++ line_words (tranche s i) (terms s)) ++ l) (drop-drop line_size (line_size * i) old ∙ ap (λ (k : ℕ). drop k old) past) ∙
    ap (λ (l : List ℕ). l ++ drop (line_size * (i + 1)) old) (sym (lines_next s i))

-- the same of results and a line that are known by their equations
pub line_put :
    (s old : List ℕ) (i : ℕ) {before after : List ℕ} {l : Line} → line_size * i + line_size ≤ length old → before ≡ lines s i ++ drop (line_size * i) old →
    l ≡ line (tranche s i) (terms s) → after ≡ sets before (line_size * i) (words_of l) → after ≡ lines s (i + 1) ++ drop (line_size * (i + 1)) old
unfolding line_words
line_put s old i {before} h was is stored =
    stored ∙
    ap (λ (k : Line). sets before (line_size * i) (words_of k)) is ∙
    ap (λ (r : List ℕ). sets r (line_size * i) (words_of (line (tranche s i) (terms s)))) was ∙
    line_written s old i h
