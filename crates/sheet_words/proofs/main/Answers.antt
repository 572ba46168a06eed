-- The buffer that `main` lends has the length that the loan says, by a law, since counting its bytes one by one would take too long.
use Rattle.std.proofs.Common.{ℕ, sym}
use Rattle.std.proofs.lemmas.List.{length-replicate}
use Rattle.sheet_words.proofs.main.Goals as goal

pub slice_bounds-write_named-end : goal.slice_bounds-write_named-end
slice_bounds-write_named-end c = sym (length-replicate {0} {A = ℕ} 1048576 0)
