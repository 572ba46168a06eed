-- Laws of the printed text: pieces written one after another are one piece, no line and no text is longer than its room, and words after the lines
-- of the tranches do not change a deal's text. No axioms.
use mathlib.Core.List.{List, [], ◌∷◌, ◌++◌, append_assoc, append-nil}
use mathlib.Core.Path.{◌≡◌, refl, sym, ap, ◌∙◌}
use Prim.Native.Nat.{ℕ, zero, suc, ◌+◌, ◌*◌, ◌-◌, ◌≤◌, ◌<◌}
use Prim.Native.String.{String}
use native.Mathlib.Numerals.{add-one}
use native.Mathlib.Omega.{arith}
use lib.ListN.{length, get_or, set, take, drop, length-append, length-take, length-drop, get_or-append}
use lib.Seq.{take-append-le, drop-append-le, drop-cons, take-suc, length-take-le, set_at, append_snoc}
use Rattle.numbers.proofs.SumLaws.{sum_same}
use Rattle.limits.specs.SheetSize.{line_size, tranches_most}
use Rattle.files.specs.Decimal.{decimal}
use Rattle.files.proofs.DecimalLaws.{length_decimal}
use Rattle.report.specs.BegunText.{Begun, behind}
use Rattle.report.specs.ReportText.{ascii, labelled, spaced, refusal_line, tranche_line, tranche_lines, rwa_column, capital_column, column_sum, deal_text, number_room, spaced_room, labelled_room, text_room, refusal_room}

-- ---- pieces one behind the other

behind_behind : (t : Begun) (xs ys : List ℕ) → behind (behind t xs) ys ≡ behind t (xs ++ ys)
behind_behind t xs ys =
    let room : t.room - length xs - length ys ≡ t.room - length (xs ++ ys) = omega (arith, length-append xs ys) in
    rw (append_assoc t.bytes xs ys, room)

pub put_behind : (t : Begun) (xs ys : List ℕ) {middle new : Begun} → middle ≡ behind t xs → new ≡ behind middle ys → new ≡ behind t (xs ++ ys)
put_behind t xs ys first second = second ∙ rw first (behind_behind t xs ys)

pub nothing_behind : (t : Begun) → t ≡ behind t []
nothing_behind t =
    let room : t.room - length {A = ℕ} [] ≡ t.room = omega arith in
    rw (append-nil t.bytes, room) refl

pub same_room : {s t : Begun} → s ≡ t → s.room ≡ t.room
same_room is = ap (λ (t : Begun). t.room) is

-- a text that is written into an empty buffer
pub whole_text : (room : ℕ) (text : List ℕ) {new t : Begun} → new ≡ record { bytes = []; room = room } → t ≡ behind new text → t.bytes ≡ text
whole_text room text empty is = ap (λ (t : Begun). t.bytes) is ∙ ap (λ (t : Begun). t.bytes ++ text) empty

-- the next byte copied over the start of a list
pub byte_copied :
    (piece old : List ℕ) (i : ℕ) {before : List ℕ} {b : ℕ} → i < length piece → i < length old → before ≡ take i piece ++ drop i old → b ≡ get_or piece i 0 →
    set before i b ≡ take (i + 1) piece ++ drop (i + 1) old
byte_copied piece old i there within was is =
    rw (was, is, add-one, drop-cons old i 0, take-suc piece i 0)
    (set_at (take i piece) (get_or old i 0) (drop (suc i) old) (get_or piece i 0) i (length-take-le i piece (omega arith)) ∙
    sym (append_snoc (take i piece) (get_or piece i 0) (drop (suc i) old)))

-- ---- how long a text can be

pub length_number : (n b : ℕ) → length (decimal n ++ b ∷ []) ≤ number_room
length_number n b = simp length-append (omega (arith, length_decimal n))

pub length_spaced : (n : ℕ) (ns : List ℕ) → length (spaced n ns) ≤ spaced_room (length ns)
unfolding spaced
length_spaced n [] = simp length-append (omega (arith, length_decimal n))
length_spaced n (m ∷ ns) = simp length-append (omega (arith, length_decimal n, length_spaced m ns))

pub length_labelled : (first second : String) (n m : ℕ) → length (labelled first n second m) ≤ labelled_room (length (ascii first) + length (ascii second))
unfolding labelled
length_labelled first second n m = simp length-append (omega (arith, length_decimal n, length_decimal m))

pub length_tranche_line : (ws : List ℕ) (i : ℕ) → length (tranche_line ws i) ≤ spaced_room line_size
length_tranche_line ws i =
    omega (arith, length_spaced (suc i) (take line_size (drop (line_size * i) ws)), length-take line_size (drop (line_size * i) ws))

pub length_tranche_lines : (ws : List ℕ) (n : ℕ) → length (tranche_lines ws n) ≤ spaced_room line_size * n
unfolding tranche_lines
length_tranche_lines ws zero = omega arith
length_tranche_lines ws (suc n) =
    omega (arith, length-append (tranche_lines ws n) (tranche_line ws n), length_tranche_lines ws n, length_tranche_line ws n)

pub length_deal_text : (charge n : ℕ) (ws : List ℕ) → n ≤ tranches_most → length (deal_text charge n ws) ≤ text_room
unfolding ascii deal_text
length_deal_text charge n ws l =
    simp length-append
    (omega (
      arith,
      length_labelled "charge " " tranches " charge n,
      length_tranche_lines ws n,
      length_labelled "total " " " (column_sum ws rwa_column n) (column_sum ws capital_column n),
    ))

pub refusal_line_fits : (number place : ℕ) → length (refusal_line number place) ≤ refusal_room
unfolding ascii
refusal_line_fits number place = omega (arith, length_labelled "refused " " at " number place)

pub length_refusal_line : (number place : ℕ) → length (refusal_line number place) ≤ text_room
length_refusal_line number place = omega (arith, refusal_line_fits number place)

-- ---- words after the lines

tranche_line_alone :
    (ws rest : List ℕ) (i : ℕ) → line_size * i + line_size ≤ length ws → tranche_line (ws ++ rest) i ≡ tranche_line ws i
tranche_line_alone ws rest i l =
    ap (λ (words : List ℕ). spaced (suc i) words)
    (ap (λ (words : List ℕ). take line_size words) (drop-append-le (line_size * i) ws rest (omega arith)) ∙
    take-append-le line_size (drop (line_size * i) ws) rest (omega (arith, length-drop (line_size * i) ws)))

tranche_lines_alone :
    (ws rest : List ℕ) (n : ℕ) → line_size * n ≤ length ws → tranche_lines (ws ++ rest) n ≡ tranche_lines ws n
unfolding tranche_lines
tranche_lines_alone ws rest zero l = refl
tranche_lines_alone ws rest (suc n) l =
    rw (tranche_lines_alone ws rest n (omega arith), tranche_line_alone ws rest n (omega arith))

column_sum_alone :
    (ws rest : List ℕ) (column n : ℕ) → column < line_size → line_size * n ≤ length ws → column_sum (ws ++ rest) column n ≡ column_sum ws column n
column_sum_alone ws rest column n c l =
    sum_same (λ i. get_or (ws ++ rest) (line_size * i + column) 0) (λ i. get_or ws (line_size * i + column) 0) n
    (λ i below. get_or-append ws rest 0 (line_size * i + column) (omega arith))

pub deal_text_of_lines :
    (charge n : ℕ) (ws rest : List ℕ) → line_size * n ≤ length ws → deal_text charge n (ws ++ rest) ≡ deal_text charge n ws
unfolding deal_text
deal_text_of_lines charge n ws rest l =
    rw (
      tranche_lines_alone ws rest n l,
      column_sum_alone ws rest rwa_column n (omega arith) l,
      column_sum_alone ws rest capital_column n (omega arith) l,
    )
