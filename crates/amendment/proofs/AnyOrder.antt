-- Two amendments of different rows may be made in either order: each gets the same answer, and sheet and sums are the same after both. No axioms.
use mathlib.Core.List.{List, [], ◌∷◌}
use mathlib.Core.Logic.{⊎_elim}
use mathlib.Core.Path.{◌≡◌, refl, sym, ap, ◌∙◌}
use Prim.Native.Nat.{ℕ, ◌<◌}
use native.Mathlib.Omega.{arith}
use lib.ListN.{drop}
use lib.Seq.{sets}
use Rattle.numbers.proofs.SmallerLarger.{le_or_lt}
use Rattle.judgement.specs.DealSheet.{word, row_at}
use Rattle.judgement.specs.Refusals.{words_verdict}
use Rattle.judgement.specs.Verdicts.{Verdict, Sound, Faulty}
use Rattle.charge.specs.declared.Sums.{Sums}
use Rattle.pool.specs.PoolSums.{pool_sums}
use Rattle.pool.specs.SummedPool.{OpenedPool}
use Rattle.amendment.specs.Amendment.{amendment_verdict, amended_row, amended_sheet, sheet_by, sheet_after}
use Rattle.amendment.specs.Run.{sheet_after_run, Run}
use Rattle.amendment.proofs.StoredRow.{runs_commute}
use Rattle.amendment.proofs.JudgedAmendment.{good_amendment}
use Rattle.amendment.proofs.AmendedSheetLaws.{counts, facts, unit, row_place, four}
use Rattle.amendment.proofs.AfterRun.{after_run, sums_afresh}

-- ---- what an amendment is judged by, no other one changes

verdict_by : (s m n : List ℕ) (v : Verdict) → words_verdict s ≡ Sound → amendment_verdict s m ≡ v → amendment_verdict (sheet_by s m v) n ≡ amendment_verdict s n
verdict_by s m n Sound sound good =
    rw ((facts s m sound good).same_resecuritisation, unit s m sound good, (counts s m sound good).row_count)
verdict_by s m n (Faulty r) sound bad = refl

pub same_answer : (s m n : List ℕ) → words_verdict s ≡ Sound → amendment_verdict (sheet_after s m) n ≡ amendment_verdict s n
same_answer s m n sound = verdict_by s m n (amendment_verdict s m) sound refl

-- ---- two good ones, the first of a row further up

rows_commute :
    (s m n : List ℕ) → words_verdict s ≡ Sound → amendment_verdict s m ≡ Sound → amendment_verdict s n ≡ Sound → amended_row m < amended_row n →
    amended_sheet (amended_sheet s m) n ≡ amended_sheet (amended_sheet s n) m
unfolding amended_sheet
rows_commute s m n sound good good' below =
    ap (λ (at : ℕ). sets (amended_sheet s m) at (drop 1 n)) (row_place s m sound good (amended_row n)) ∙
    runs_commute (drop 1 m) (drop 1 n) s (row_at s (amended_row m)) (row_at s (amended_row n)) (omega (arith, four s m sound good)) ∙
    ap (λ (at : ℕ). sets (amended_sheet s n) at (drop 1 m)) (sym (row_place s n sound good' (amended_row m)))

module _ (s m n : List ℕ) (sound : words_verdict s ≡ Sound) (other : word m 0 ≡ word n 0 → ⊥) where
  good_ones : amendment_verdict s m ≡ Sound → amendment_verdict s n ≡ Sound → amended_sheet (amended_sheet s m) n ≡ amended_sheet (amended_sheet s n) m
  good_ones good good' =
      let first = (good_amendment s m good).number_least in
      let second = (good_amendment s n good').number_least in
      ⊎_elim
      (λ up. ⊎_elim (λ same. absurd (other (omega arith))) (λ below. rows_commute s m n sound good good' (omega arith)) (le_or_lt (word n 0) (word m 0)))
      (λ above. sym (rows_commute s n m sound good' good (omega arith)))
      (le_or_lt (word m 0) (word n 0))

  by_verdicts :
      (v w : Verdict) → amendment_verdict s m ≡ v → amendment_verdict s n ≡ w → sheet_by (sheet_by s m v) n w ≡ sheet_by (sheet_by s n w) m v
  by_verdicts Sound Sound good good' = good_ones good good'
  by_verdicts Sound (Faulty r) good bad = refl
  by_verdicts (Faulty r) Sound bad good = refl
  by_verdicts (Faulty r) (Faulty r') bad bad' = refl

  pub sheets_commute : sheet_after (sheet_after s m) n ≡ sheet_after (sheet_after s n) m
  sheets_commute =
      ap (λ (v : Verdict). sheet_by (sheet_after s m) n v) (same_answer s m n sound) ∙
      by_verdicts (amendment_verdict s m) (amendment_verdict s n) refl refl ∙
      ap (λ (v : Verdict). sheet_by (sheet_after s n) m v) (sym (same_answer s n m sound))

-- ---- of two runs of calls

pub any_order :
    {s t t' m n : List ℕ} {q p p' : Sums} → OpenedPool s q → (word m 0 ≡ word n 0 → ⊥) → Run s q (m ∷ n ∷ []) t p → Run s q (n ∷ m ∷ []) t' p' →
    (t ≡ t') × (p ≡ p')
unfolding sheet_after_run
any_order {s = s} {m = m} {n = n} opened other run run' =
    let sheets = (after_run opened run).0 ∙ sheets_commute s m n opened.sound other ∙ sym (after_run opened run').0 in
    (sheets, sums_afresh opened run ∙ ap pool_sums sheets ∙ sym (sums_afresh opened run'))
