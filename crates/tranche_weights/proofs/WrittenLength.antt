-- Both cases of what became of a text hold its length. No axioms.
use mathlib.Core.Bool.{Bool, true, false, cond}
use mathlib.Core.List.{List}
use mathlib.Core.Path.{◌≡◌, ◌∙◌, refl, ap}
use Prim.Native.Nat.{ℕ, ◌≤◌}
use native.Mathlib.Omega.{arith}
use lib.Dec.{leb}
use lib.ListN.{length}
use Rattle.std.specs.Prelude.{Result, Ok, Err}
use Rattle.report.specs.ReportText.{written_for}
use Rattle.report.specs.declared.NoRoom.{NoRoom}

abbrev pub length_in : Result ℕ NoRoom → ℕ
length_in (Ok n) = n
length_in (Err no_room) = no_room.needed

either_holds : (fits : Bool) (n : ℕ) → length_in (cond fits (Ok n) (Err (record { needed = n }))) ≡ n
either_holds true n = refl
either_holds false n = refl

pub written_length :
    (text old : List ℕ) (w : Result ℕ NoRoom) (most : ℕ) → w ≡ written_for text old → length text ≤ most →
    (length_in w ≡ length text) × (length_in w ≤ most)
written_length text old w most e fits =
    let is = ap length_in e ∙ either_holds (leb (length text) (length old)) (length text) in
    (is, omega (arith, is, fits))
