-- 02, S-9: "A converter rewrites a sheet from either unit to the other and gives the same lines for it": what the answer to a sheet becomes, and what a conversion back gives. That both hold of every sheet that is converted is proved in
-- proofs/ConversionLaws.antt.
use Rattle.std.specs.Prelude.{List, ◌≡◌, ℕ}
use Rattle.limits.specs.SheetSize.{facts_most}
use Rattle.judgement.specs.Verdicts.{Sound}
use Rattle.deal.specs.FilledAnswer.{SameButMoved}
use Rattle.conversion.specs.RewrittenSheet.{all_facts, rewritten}
use Rattle.conversion.specs.Conversion.{conversion_verdict}

-- the rewritten sheet is accepted just where the given one is and gives the same lines; a refusal, which can only be 13 or 14, stands at the place to which its word has moved
abbrev pub SameLines : List ℕ → Type 0
SameLines s = SameButMoved facts_most s (rewritten s)

-- it is converted back, where there is as much room, to the given sheet with its list of facts filled
pub record ConvertsBack (s : List ℕ) (room : ℕ) : Type 0 where
  pub not_refused : conversion_verdict (rewritten s) room ≡ Sound
  pub filled_sheet : rewritten (rewritten s) ≡ all_facts s
