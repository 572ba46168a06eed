-- 02, S-1: "a sheet with four facts counts as 0", S-3: "0 or absent means months as before.", and S-9: "Shorter fact lists are filled with zeros first.": what the answer to a sheet becomes where its list of facts is filled
-- with zeros (FilledFacts.antt of `judgement`).
use Rattle.std.specs.Prelude.{List, ◌≡◌, ℕ}
use Rattle.judgement.specs.FilledFacts.{filled, moved}
use Rattle.deal.specs.Results.{Reply, reply_to, results_after}

-- the same numbers, the place moved (place 0 stays)
abbrev pub moved_reply : ℕ → List ℕ → Reply → Reply
moved_reply n s r = record { number = r.number; place = moved n s r.place; count = r.count; charge = r.charge }

-- a sheet s' has the answer of s, but for the place of a refusal, which has moved as it does where the list of facts is filled to n, and leaves the same results
pub record SameButMoved (n : ℕ) (s s' : List ℕ) : Type 0 where
  pub same_reply : (room : ℕ) → reply_to s' room ≡ moved_reply n s (reply_to s room)
  pub same_results : (old : List ℕ) → results_after s' old ≡ results_after s old

-- so it is with the sheet filled to n facts
abbrev pub SameWhenFilled : ℕ → List ℕ → Type 0
SameWhenFilled n s = SameButMoved n s (filled n s)
