-- 01, "Refusals, by who can cause them", in plain relations, of any words that are judged upward: `fault p` is the fault of the word at place p, `size` how many words there are and `need` how many
-- there must be. Of a sheet's words this is Judged.antt; 02, S-10, judges the five words of an amendment by the same rule. That these and the definition by steps (`judged_words`, Refusals.antt)
-- say the same is proved in proofs/JudgedWords.antt.
use Rattle.std.specs.Prelude.{◌≡◌, ℕ, ◌<◌}
use Rattle.judgement.specs.Verdicts.{Refusal}

-- ---- one word

pub record GoodWordBy (fault : ℕ → ℕ) (size p : ℕ) : Type 0 where
  pub there : p < size
  pub no_fault : fault p ≡ 0

pub record BadWordBy (fault : ℕ → ℕ) (size p number : ℕ) : Type 0 where
  pub there : p < size
  pub fault_is : fault p ≡ number
  pub not_zero : number ≡ 0 → ⊥

-- ---- "Words are judged from place 0 upward and the first bad one decides, at its own place."

abbrev pub GoodBelowBy : (ℕ → ℕ) → ℕ → ℕ → Type 0
GoodBelowBy fault size k = (p : ℕ) → p < k → GoodWordBy fault size p

-- the word at the refusal's place is bad with the refusal's number, or "1: a needed word is missing; place is the sheet's length"
pub data BadHereBy (fault : ℕ → ℕ) (size : ℕ) (r : Refusal) : Type 0 where
  bad : BadWordBy fault size r.place r.number → BadHereBy fault size r
  missing : r.number ≡ 1 → r.place ≡ size → BadHereBy fault size r

pub record FirstBadBy (fault : ℕ → ℕ) (size need : ℕ) (r : Refusal) : Type 0 where
  pub before : GoodBelowBy fault size r.place
  pub needed_word : r.place < need
  pub here : BadHereBy fault size r

-- ---- "Then 3"

-- every word that must be there is good, and none follows
pub record WordsGoodBy (fault : ℕ → ℕ) (size need : ℕ) : Type 0 where
  pub good : GoodBelowBy fault size need
  pub none_follows : size ≡ need

-- "3: words follow the last section; place of the first."
pub record WordsFollowBy (fault : ℕ → ℕ) (size need : ℕ) (r : Refusal) : Type 0 where
  pub good : GoodBelowBy fault size need
  pub more : need < size
  pub number_is : r.number ≡ 3
  pub place_is : r.place ≡ need

pub data WordsRefusalBy (fault : ℕ → ℕ) (size need : ℕ) (r : Refusal) : Type 0 where
  first_bad : FirstBadBy fault size need r → WordsRefusalBy fault size need r
  words_follow_lem : WordsFollowBy fault size need r → WordsRefusalBy fault size need r
