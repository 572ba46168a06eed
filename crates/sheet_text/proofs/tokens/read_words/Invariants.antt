-- `read_words`: before each turn the scan stands at its place in the text, and the words read are stored. No axioms.
use mathlib.Core.Path.{◌≡◌}
use Rattle.sheet_text.proofs.ScanLaws.{InText}
use Rattle.sheet_text.proofs.tokens.read_words.Given as goal

abbrev pub invariant-loop-character : goal.invariant-loop-character
invariant-loop-character l = (l.s.at ≡ l.character-index) × InText l.text l.comment l.s l.words
