-- The tranches of a judged sheet are as many as its layout says, and few: so a row's number fits a byte and the tables
-- have a place for each row. No axioms.
use mathlib.Core.Path.{◌≡◌}
use Prim.Native.Nat.{◌≤◌}
use Rattle.judgement.specs.DealSheet.{tranche_count}
use Rattle.judgement.specs.declared.judged.JudgedSheet.{JudgedSheet}
use Rattle.judgement.proofs.LayoutLaws.{tranches_is}
use Rattle.judgement.proofs.SheetLimits.{tranches_counted, tranches_within}

pub few_tranches : (sheet : JudgedSheet) → (sheet.layout.tranches ≡ tranche_count sheet.words.now) × (tranche_count sheet.words.now ≤ 32)
few_tranches sheet = (tranches_is _ _ sheet.laid_out, (tranches_within _ (tranches_counted _ sheet.laid_out.good)).1)
