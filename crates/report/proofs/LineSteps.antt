-- A line of numbers, one after another: what is still to be written of it before each. No axioms.
use mathlib.Core.List.{List, [], ◌∷◌, ◌++◌}
use mathlib.Core.Path.{◌≡◌, refl, sym, ap, ◌∙◌}
use Prim.Native.Nat.{ℕ, suc, ◌+◌, ◌-◌, ◌≤◌, ◌<◌}
use native.Mathlib.Numerals.{add-one}
use native.Mathlib.Omega.{arith}
use lib.ListN.{length, get_or, drop, length-append}
use lib.Seq.{sets, drop-cons, drop-length, append_snoc}
use Rattle.files.specs.Decimal.{decimal, space, newline}
use Rattle.files.proofs.Pieces.{sets_sets}
use Rattle.report.specs.BegunText.{Begun, behind}
use Rattle.report.specs.ReportText.{spaced, spaced_room}
use Rattle.report.proofs.TextLaws.{put_behind, length_number}

-- The line of n and ws is to stand behind `begun`. Of it `next` and the words from i on are still to be written, and
-- there is room for them.
pub record StillToPut (begun : Begun) (n : ℕ) (ws : List ℕ) (now : Begun) (next i : ℕ) : Type 0 where
  pub room : spaced_room (length ws - i) ≤ now.room
  pub line : behind now (spaced next (drop i ws)) ≡ behind begun (spaced n ws)

-- a number with the space after it, and the line of the words behind it
spaced_next :
    (ws : List ℕ) (i next : ℕ) → i < length ws →
    spaced next (drop i ws) ≡ (decimal next ++ space ∷ []) ++ spaced (get_or ws i 0) (drop (i + 1) ws)
unfolding spaced
spaced_next ws i next among = rw (add-one, drop-cons ws i 0 among) (sym (append_snoc (decimal next) space (spaced (get_or ws i 0) (drop (suc i) ws))))

module _ {begun : Begun} {n : ℕ} {ws : List ℕ} where
  pub number_put :
      {now new : Begun} {next : ℕ} (i : ℕ) → i < length ws → StillToPut begun n ws now next i → new ≡ behind now (decimal next ++ space ∷ []) →
      StillToPut begun n ws new (get_or ws i 0) (i + 1)
  number_put {now} {next = next} i among before put =
      let piece = decimal next ++ space ∷ [] in
      record {
        room = omega (arith, before.room, ap (λ (t : Begun). t.room) put, length_number next space);
        line = put_behind now piece _ put refl ∙ rw (spaced_next ws i next among) at before.line;
      }

  pub last_put :
      {now new : Begun} {next : ℕ} → StillToPut begun n ws now next (length ws) → new ≡ behind now (decimal next ++ newline ∷ []) →
      new ≡ behind begun (spaced n ws)
  unfolding spaced
  last_put before put = put ∙ rw (drop-length ws) at before.line

-- a number with the space after it, and behind it the line of the numbers that follow
pub number_behind :
    (t : Begun) (n m : ℕ) (ns : List ℕ) {middle new : Begun} → middle ≡ behind t (decimal n ++ space ∷ []) → new ≡ behind middle (spaced m ns) →
    new ≡ behind t (spaced n (m ∷ ns))
unfolding spaced
number_behind t n m ns first second =
    put_behind t (decimal n ++ space ∷ []) (spaced m ns) first second ∙ ap (behind t) (append_snoc (decimal n) space (spaced m ns))

-- the same in a list of bytes, from a place on
pub number_before :
    (old : List ℕ) (at n m b : ℕ) (ns : List ℕ) {middle new : List ℕ} {e end : ℕ} → b ≡ space →
    (e ≡ at + length (decimal n ++ b ∷ [])) × (middle ≡ sets old at (decimal n ++ b ∷ [])) →
    (end ≡ e + length (spaced m ns)) × (new ≡ sets middle e (spaced m ns)) →
    (end ≡ at + length (spaced n (m ∷ ns))) × (new ≡ sets old at (spaced n (m ∷ ns)))
unfolding spaced
number_before old at n m b ns is first second =
    let piece = decimal n ++ space ∷ [] in
    let (ended, stands) = rw is at first in
    rw (← append_snoc (decimal n) space (spaced m ns))
    (omega (arith, ended, second.0, length-append piece (spaced m ns)), second.1 ∙ rw (stands, ended) (sets_sets old at piece (spaced m ns)))
