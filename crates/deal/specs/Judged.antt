-- 01, "Refusals, by who can cause them", and 02, S-5 and S-8 for 13 and S-6 for 14, in plain relations: why a sheet is refused, and what acceptance means. That these and the definition by steps
-- (Refusals.antt) say the same is proved in proofs/JudgedLaws.antt. What the words decide is in Judged.antt of `judgement`.
use Rattle.std.specs.Prelude.{true, false, List, ◌≡◌, ℕ, ◌*◌, ◌≤◌, ◌<◌}
use Rattle.limits.specs.SheetSize.{line_size}
use Rattle.judgement.specs.DealSheet.{tranche_count, tranche_at}
use Rattle.weights.specs.ApproachFloorCap.{thin}
use Rattle.deal.specs.Lines.{terms, tranche}
use Rattle.judgement.specs.Verdicts.{Refusal}
use Rattle.judgement.specs.Judged.{WordsGood, WordsRefusal}

-- "14: results shorter than six words per tranche; place 0."; 02, S-6: "14 now reads seven words per tranche"
pub record RoomShort (s : List ℕ) (room : ℕ) (r : Refusal) : Type 0 where
  pub words : WordsGood s
  pub short : room < line_size * tranche_count s
  pub number_is : r.number ≡ 14
  pub place_is : r.place ≡ 0

-- "13: SEC-SA applies, A equals D, and D is above the pool charge; place of the tranche amount.", at the first such tranche; 02, S-5: "the thin-tranche refusal covers approach 3
-- tranches"; S-8: "An unrated tranche that finds one no longer meets 13."
pub record TrancheThin (s : List ℕ) (room : ℕ) (r : Refusal) : Type 0 where
  pub words : WordsGood s
  pub enough : line_size * tranche_count s ≤ room
  pub i : ℕ
  pub among : i < tranche_count s
  pub is_thin : thin (tranche s i) (terms s) ≡ true
  pub none_before : (j : ℕ) → j < i → thin (tranche s j) (terms s) ≡ false
  pub number_is : r.number ≡ 13
  pub place_is : r.place ≡ tranche_at s i

-- why a sheet is refused
pub data Why (s : List ℕ) (room : ℕ) (r : Refusal) : Type 0 where
  by_words : WordsRefusal s r → Why s room r
  by_room : RoomShort s room r → Why s room r
  by_thinness : TrancheThin s room r → Why s room r

-- a sheet that is accepted: every word good, none more, room for the results, and no tranche too thin for the formula
pub record Accepted (s : List ℕ) (room : ℕ) : Type 0 where
  pub words : WordsGood s
  pub enough : line_size * tranche_count s ≤ room
  pub none_thin : (i : ℕ) → i < tranche_count s → thin (tranche s i) (terms s) ≡ false
