-- What a JudgedSheet holds of its words and layout. No reader has to trust this file: no function's promise cites it, and what `judge_words`
-- finds gives it (`laid_out`, proofs/WordsLaw.antt).
use Rattle.std.specs.Prelude.{List, ◌≡◌, ℕ}
use Rattle.judgement.specs.DealSheet.{needed, layout}
use Rattle.judgement.specs.Refusals.{judged}
use Rattle.judgement.specs.declared.Layout.{Layout}
use Rattle.judgement.specs.Verdicts.{Sound}

-- every word that the sheet needs is good, and the layout is the sheet's
pub record LaidOut (s : List ℕ) (l : Layout) : Type 0 where
  pub good : judged s (needed s) ≡ Sound
  pub is_layout : l ≡ layout s
