-- 01, "Refusals, by who can cause them", and 02, S-5 and S-8 for 13 and S-6 for 14: what is judged after the words (Refusals.antt of `judgement`), and the order of all.
use Rattle.std.specs.Prelude.{cond, List, ℕ, ◌*◌, ltb}
use Rattle.limits.specs.SheetSize.{line_size}
use Rattle.judgement.specs.DealSheet.{tranche_count, tranche_at}
use Rattle.weights.specs.ApproachFloorCap.{thin}
use Rattle.deal.specs.Lines.{terms, tranche}
use Rattle.judgement.specs.Verdicts.{Verdict, Sound}
use Rattle.judgement.specs.Refusals.{refused, or_else, first_of, words_verdict}

-- "14: results shorter than six words per tranche; place 0."; 02, S-6: "14 now reads seven words per tranche"
abbrev pub room_verdict : List ℕ → ℕ → Verdict
room_verdict s room = cond (ltb room (line_size * tranche_count s)) (refused 14 0) Sound

-- "13: SEC-SA applies, A equals D, and D is above the pool charge; place of the tranche amount."; 02, S-5: "the thin-tranche refusal covers approach 3 tranches"; S-8: "An
-- unrated tranche that finds one no longer meets 13.", since `tranche` has the ratings that count and `thin` goes by the approach (`reference_not_thin`, proofs/InferredLaws.antt)
abbrev pub thin_verdict : List ℕ → ℕ → Verdict
thin_verdict s i = cond (thin (tranche s i) (terms s)) (refused 13 (tranche_at s i)) Sound

-- what is judged of a sheet and the room for its results
unfoldable pub verdict : List ℕ → ℕ → Verdict
verdict s room =
    or_else (words_verdict s)
    (or_else (room_verdict s room)
    (first_of (λ i. thin_verdict s i) (tranche_count s)))
