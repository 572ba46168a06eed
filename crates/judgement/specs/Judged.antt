-- 01, "Refusals, by who can cause them", in plain relations: what each refusal by the words means, and what it means that they are good, by the relations of JudgedWords.antt. That these and the
-- definition by steps (Refusals.antt) say the same is proved in proofs/JudgedLaws.antt. The other refusals are in Judged.antt of `deal`.
use Rattle.std.specs.Prelude.{List, ◌≡◌, ℕ, length}
use Rattle.judgement.specs.DealSheet.{needed, layout}
use Rattle.judgement.specs.JudgedWords.{GoodBelowBy, BadHereBy, WordsGoodBy, WordsRefusalBy}
use Rattle.judgement.specs.Outcome.{Outcome, refused_with, found}
use Rattle.judgement.specs.Refusals.{fault}
use Rattle.judgement.specs.declared.Layout.{Layout}
use Rattle.judgement.specs.Verdicts.{Refusal}

-- the first k words of a sheet are there and have no fault
abbrev pub GoodBelow : List ℕ → ℕ → Type 0
GoodBelow s k = GoodBelowBy (fault s) (length s) k

-- the word at the refusal's place is bad or missing
abbrev pub BadHere : List ℕ → Refusal → Type 0
BadHere s r = BadHereBy (fault s) (length s) r

-- every word that the sheet needs is good, and none follows
abbrev pub WordsGood : List ℕ → Type 0
WordsGood s = WordsGoodBy (fault s) (length s) (needed s)

-- the first bad or missing word, or words that follow
abbrev pub WordsRefusal : List ℕ → Refusal → Type 0
WordsRefusal s r = WordsRefusalBy (fault s) (length s) (needed s) r

-- what the numbers of the words mean: a number and a place are those of their refusal, and where there are none the words are good and the facts and places
-- are the sheet's
pub record NumbersMean (s : List ℕ) (n : Outcome Layout) : Type 0 where
  pub refused_as : (r : Refusal) → n ≡ refused_with r.number r.place → WordsRefusal s r
  pub good_with : (l : Layout) → n ≡ found l → WordsGood s × (l ≡ layout s)
