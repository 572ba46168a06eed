-- A row that passes the one test of its four words has no fault in any of them, so the judgement goes on after it. No axioms.
use mathlib.Core.Bool.{Bool, true}
use mathlib.Core.List.{List}
use mathlib.Core.Path.{◌≡◌, sym, ◌∙◌}
use Prim.Native.Nat.{ℕ, ◌+◌, ◌≤◌, ◌<◌}
use native.Mathlib.Nat.{add-zero}
use native.Mathlib.Omega.{arith}
use lib.ListN.{length}
use borrow.Author.Tests.{lt-ltb}
use Rattle.faults.specs.WordFaults.{row_is_good}
use Rattle.faults.proofs.RowTestLaw.{row_faultless}
use Rattle.judgement.specs.DealSheet.{word, resecuritisation, in_hundredths, rows, row_at}
use Rattle.judgement.specs.Refusals.{fault, judged}
use Rattle.judgement.specs.Verdicts.{Sound}
use Rattle.judgement.proofs.Judgement.{judged_next, fault_of_row}

-- the next word is good
next_good : (s : List ℕ) (p : ℕ) → judged s p ≡ Sound → p < length s → fault s p ≡ 0 → judged s (p + 1) ≡ Sound
next_good s p sound there none = judged_next s p sound ∙ simp (lt-ltb p (length s) there, none)

pub good_row_judged :
    (s : List ℕ) (i : ℕ) {good : Bool} → judged s (row_at s i) ≡ Sound → i < rows s → row_at s i + 4 ≤ length s →
    good ≡ row_is_good (resecuritisation s) (in_hundredths s) (word s (row_at s i)) (word s (row_at s i + 1)) (word s (row_at s i + 2)) (word s (row_at s i + 3)) →
    good ≡ true → judged s (row_at s (i + 1)) ≡ Sound
good_row_judged s i sound row whole told good =
    let at = row_at s i in
    let none = row_faultless (resecuritisation s) (in_hundredths s) (word s at) (word s (at + 1)) (word s (at + 2)) (word s (at + 3)) (sym told ∙ good) in
    let first = next_good s at sound (omega arith) (rw (add-zero at) at (fault_of_row s i 0 row (omega arith)) ∙ none.0) in
    let second = next_good s (at + 1) first (omega arith) (fault_of_row s i 1 row (omega arith) ∙ none.1.0) in
    let two : at + 1 + 1 ≡ at + 2 = omega arith in
    let third = next_good s (at + 2) (rw two at second) (omega arith) (fault_of_row s i 2 row (omega arith) ∙ none.1.1.0) in
    let three : at + 2 + 1 ≡ at + 3 = omega arith in
    let fourth = next_good s (at + 3) (rw three at third) (omega arith) (fault_of_row s i 3 row (omega arith) ∙ none.1.1.1) in
    let end : at + 3 + 1 ≡ row_at s (i + 1) = omega arith in
    rw end at fourth
