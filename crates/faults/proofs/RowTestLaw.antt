-- A pool row that passes the one test has no fault in any of its four words. No axioms.
use mathlib.Core.Bool.{Bool, true}
use mathlib.Core.Path.{◌≡◌}
use Prim.Native.Nat.{ℕ}
use lib.Dec.{eqb}
use borrow.Author.Tests.{eqb-true}
use Rattle.numbers.proofs.Tests.{both_true}
use Rattle.faults.specs.WordFaults.{row_fault, row_is_good}

pub row_faultless :
    (resecuritised hundredths : Bool) (e n w t : ℕ) → row_is_good resecuritised hundredths e n w t ≡ true →
    (row_fault resecuritised hundredths 0 e ≡ 0) ×
    ((row_fault resecuritised hundredths 1 n ≡ 0) × ((row_fault resecuritised hundredths 2 w ≡ 0) × (row_fault resecuritised hundredths 3 t ≡ 0)))
row_faultless resecuritised hundredths e n w t good =
    let first = both_true (eqb (row_fault resecuritised hundredths 0 e) 0) _ good in
    let second = both_true (eqb (row_fault resecuritised hundredths 1 n) 0) _ first.1 in
    let third = both_true (eqb (row_fault resecuritised hundredths 2 w) 0) (eqb (row_fault resecuritised hundredths 3 t) 0) second.1 in
    (eqb-true _ 0 first.0, (eqb-true _ 0 second.0, (eqb-true _ 0 third.0, eqb-true _ 0 third.1)))
