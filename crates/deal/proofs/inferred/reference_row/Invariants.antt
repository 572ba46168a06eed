-- `reference_row`: none of the rows before the turn's is a reference, and the turn's is rated; the first reference is the row of 02's words. The measure is what is left of the tranches. No axioms.
use mathlib.Core.Bool.{true, false}
use mathlib.Core.Path.{◌≡◌}
use Prim.Native.Nat.{ℕ, ◌-◌, ◌≤◌, ◌<◌}
use Rattle.judgement.specs.DealSheet.{tranche_count}
use Rattle.deal.specs.InferredRatings.{rated_row, is_reference}
use Rattle.deal.proofs.inferred.reference_row.Given as goal

abbrev pub invariant-loop-j : goal.invariant-loop-j
invariant-loop-j l = (l.j ≤ tranche_count l.sheet.words.now) × ((l.j < tranche_count l.sheet.words.now → rated_row l.sheet.words.now l.j ≡ true) × ((k : ℕ) → k < l.j → is_reference l.sheet.words.now l.i k ≡ false))

abbrev pub decreases-loop-j : goal.decreases-loop-j
decreases-loop-j l = l.tranches - l.j
