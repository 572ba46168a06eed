-- `load_words`: after i turns the words are the file's first i and the rest of what was there. No axioms.
use mathlib.Core.List.{◌++◌}
use mathlib.Core.Path.{◌≡◌}
use lib.ListN.{length, drop}
use Rattle.files.specs.FileForm.{words_to}
use Rattle.files.proofs.load_words.Given as goal

abbrev pub invariant-loop-i : goal.invariant-loop-i
invariant-loop-i l = (length l.words ≡ length l.initial.words) × (l.words ≡ words_to l.file l.i ++ drop l.i l.initial.words)
