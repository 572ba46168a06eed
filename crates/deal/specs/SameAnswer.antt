-- What it is that two sheets get the same answer and lines: laws of sheets that say the same in other words cite it (InMonths.antt, EitherUnit.antt, SaPool.antt).
use Rattle.std.specs.Prelude.{List, ◌≡◌, ℕ}
use Rattle.deal.specs.Results.{reply_to, results_after}

-- both sheets have the same answer, whatever the room for results, and leave the same results
pub record SameAnswer (s s' : List ℕ) : Type 0 where
  pub same_reply : (room : ℕ) → reply_to s' room ≡ reply_to s room
  pub same_results : (old : List ℕ) → results_after s' old ≡ results_after s old
