-- Laws of the results: line i stands in the `line_size` words from `line_size` × i, its seventh word is never above its fourth and at most 2 below it, the words after the lines are as they were,
-- and so are all words on a refusal. No axioms.
use mathlib.Core.List.{List, ◌++◌}
use mathlib.Core.Logic.{⊎_elim}
use mathlib.Core.Path.{◌≡◌, refl, ap, ◌∙◌}
use Prim.Native.Nat.{ℕ, zero, suc, ◌+◌, ◌*◌, ◌-◌, ◌≤◌, ◌<◌}
use native.Mathlib.Nat.{eq-or-lt_of_le, le_of_suc-le-suc, le_step, lt-suc_self, not-suc-le-zero}
use native.Mathlib.Omega.{arith}
use lib.ListN.{length, get_or, drop, length-append, length-drop, get_or-append}
use lib.Seq.{get_or-append-add, get_or-drop}
use Rattle.limits.specs.SheetSize.{line_size}
use Rattle.judgement.specs.DealSheet.{tranche_count}
use Rattle.numbers.specs.BothEnds.{EndsWithin}
use Rattle.numbers.specs.declared.Ends.{Ends}
use Rattle.weights.specs.ApproachFloorCap.{approach, weight}
use Rattle.deal.specs.Lines.{terms, tranche, line, line_words}
use Rattle.deal.specs.Refusals.{verdict}
use Rattle.deal.specs.Results.{lines, results_for, results_after}
use Rattle.judgement.specs.Verdicts.{Refusal, Verdict, Sound, Faulty}
use Rattle.weights.specs.declared.Terms.{Terms}
use Rattle.weights.specs.declared.Tranche.{Tranche}
use Rattle.weights.proofs.WeightLaws.{weight_within, table_weight_within}
use Rattle.deal.proofs.JudgedLaws.{accepted_means}

pub length_line : (t : Tranche) (d : Terms) → length (line_words t d) ≡ line_size
unfolding line_words
length_line t d = refl

pub length_lines : (s : List ℕ) (n : ℕ) → length (lines s n) ≡ line_size * n
unfolding lines
length_lines s zero = refl
length_lines s (suc n) =
    omega (arith, length-append (lines s n) (line_words (tranche s n) (terms s)), length_lines s n, length_line (tranche s n) (terms s))

pub lines_alike :
    (s s' : List ℕ) (n : ℕ) → ((i : ℕ) → i < n → line_words (tranche s' i) (terms s') ≡ line_words (tranche s i) (terms s)) → lines s' n ≡ lines s n
unfolding lines
lines_alike s s' zero alike = refl
lines_alike s s' (suc n) alike = rw (lines_alike s s' n (λ i l. alike i (le_step l)), alike n (lt-suc_self n))

pub lines_same :
    (s s' : List ℕ) (n : ℕ) → terms s' ≡ terms s → ((i : ℕ) → i < n → tranche s' i ≡ tranche s i) → lines s' n ≡ lines s n
lines_same s s' n shared alike = lines_alike s s' n (λ i l. rw (alike i l, shared))

-- the word at a place past a list's length in two lists joined
get_d_after : (xs ys : List ℕ) (p n : ℕ) → p ≡ length xs + n → get_or (xs ++ ys) p 0 ≡ get_or ys n 0
get_d_after xs ys p n e = rw e (get_or-append-add xs ys n 0)

pub line_at : (s : List ℕ) (n i c : ℕ) → i < n → c < line_size → get_or (lines s n) (line_size * i + c) 0 ≡ get_or (line_words (tranche s i) (terms s)) c 0
unfolding lines
line_at s zero i c l h = absurd (not-suc-le-zero l)
line_at s (suc n) i c l h =
    ⊎_elim
    (λ e. rw e (get_d_after (lines s n) (line_words (tranche s n) (terms s)) (line_size * n + c) c (omega (arith, length_lines s n))))
    (λ below.
    get_or-append (lines s n) (line_words (tranche s n) (terms s)) 0 (line_size * i + c) (omega (arith, length_lines s n)) ∙
    line_at s n i c below h)
    (eq-or-lt_of_le (le_of_suc-le-suc l))

pub results_accepted : (s old : List ℕ) → verdict s (length old) ≡ Sound → results_after s old ≡ lines s (tranche_count s) ++ drop (line_size * tranche_count s) old
unfolding results_after
results_accepted s old e = rw e

pub results_refused : (s old : List ℕ) (r : Refusal) → verdict s (length old) ≡ Faulty r → results_after s old ≡ old
unfolding results_after
results_refused s old r e = rw e

pub results_line :
    (s old : List ℕ) (i c : ℕ) → verdict s (length old) ≡ Sound → i < tranche_count s → c < line_size →
    get_or (results_after s old) (line_size * i + c) 0 ≡ get_or (line_words (tranche s i) (terms s)) c 0
results_line s old i c e l h =
    rw (results_accepted s old e)
    (get_or-append (lines s (tranche_count s)) (drop (line_size * tranche_count s) old) 0 (line_size * i + c) (omega (arith, length_lines s (tranche_count s))) ∙
    line_at s (tranche_count s) i c l h)

-- the seventh and the fourth word of a line, as the low and the high end that they are
abbrev pub line_ends : List ℕ → ℕ → Ends
line_ends results i = record { low = get_or results (line_size * i + 6) 0; high = get_or results (line_size * i + 3) 0 }

ends_in_results :
    (P : Ends → Type 0) (s old : List ℕ) (i : ℕ) → verdict s (length old) ≡ Sound → i < tranche_count s →
    P (weight (tranche s i) (terms s)) → P (line_ends (results_after s old) i)
unfolding line_words line
ends_in_results P s old i e l holds =
    rw (results_line s old i 6 e l (omega arith), results_line s old i 3 e l (omega arith)) holds

-- S-6: in every line the seventh word is not above the fourth, and at most 2 below it,
pub seventh_within :
    (s old : List ℕ) (i : ℕ) → verdict s (length old) ≡ Sound → i < tranche_count s → EndsWithin 2 (line_ends (results_after s old) i)
seventh_within s old i e l = ends_in_results (EndsWithin 2) s old i e l (weight_within (tranche s i) (terms s))

-- by the rating table at most 1
pub seventh_within_by_table :
    (s old : List ℕ) (i : ℕ) → verdict s (length old) ≡ Sound → i < tranche_count s → approach (tranche s i) (terms s) ≡ 1 →
    EndsWithin 1 (line_ends (results_after s old) i)
seventh_within_by_table s old i e l by =
    ends_in_results (EndsWithin 1) s old i e l (table_weight_within (tranche s i) (terms s) by)

pub results_rest :
    (s old : List ℕ) (p : ℕ) → verdict s (length old) ≡ Sound → line_size * tranche_count s ≤ p → get_or (results_after s old) p 0 ≡ get_or old p 0
results_rest s old p e l =
    let n = line_size * tranche_count s in
    let back : n + (p - n) ≡ p = omega arith in
    rw (results_accepted s old e)
    (get_d_after (lines s (tranche_count s)) (drop n old) p (p - n) (omega (arith, length_lines s (tranche_count s))) ∙
    get_or-drop n old (p - n) 0 ∙
    ap (λ (k : ℕ). get_or old k 0) back)

length_results_for :
    (s old : List ℕ) (v : Verdict) → (v ≡ Sound → line_size * tranche_count s ≤ length old) → length (results_for s old v) ≡ length old
length_results_for s old Sound room =
    let enough = room refl in
    omega (
      arith,
      length-append (lines s (tranche_count s)) (drop (line_size * tranche_count s) old),
      length_lines s (tranche_count s),
      length-drop (line_size * tranche_count s) old,
    )
length_results_for s old (Faulty r) room = refl

pub results_length : (s old : List ℕ) → length (results_after s old) ≡ length old
unfolding results_after
results_length s old =
    length_results_for s old (verdict s (length old)) (λ e. (accepted_means s (length old) e).enough)
