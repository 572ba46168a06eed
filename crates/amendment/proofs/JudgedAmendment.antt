-- The judgement of an amendment by steps (Amendment) and in plain relations (JudgedAmendment) say the same: of each refusal, and of a good one. No axioms.
use mathlib.Core.List.{List}
use mathlib.Core.Path.{◌≡◌}
use Prim.Native.Nat.{ℕ, zero, suc, ◌<◌}
use native.Mathlib.Omega.{arith}
use lib.ListN.{length}
use Rattle.numbers.proofs.Tests.{within_is}
use Rattle.faults.proofs.FaultLaws.{no_fault_within}
use Rattle.faults.proofs.GoodWordsLaw as row
use Rattle.judgement.specs.DealSheet.{word, resecuritisation, in_hundredths, rows}
use Rattle.judgement.specs.JudgedWords.{WordsGoodBy}
use Rattle.judgement.specs.Verdicts.{Refusal, Sound, Faulty}
use Rattle.judgement.proofs.JudgedWords.{why_refused, refused_so, what_accepted, accepted_so}
use Rattle.amendment.specs.Amendment.{amendment_size, amendment_judged, amendment_verdict, amended_row}
use Rattle.amendment.specs.JudgedAmendment.{fault_at, AmendmentRefusal, GoodAmendment}

module _ (s m : List ℕ) where
  -- ---- a refusal

  pub amendment_refused : (r : Refusal) → amendment_verdict s m ≡ Faulty r → AmendmentRefusal s m r
  unfolding amendment_judged
  amendment_refused = why_refused (fault_at s m) (length m) amendment_size

  pub refused_amendment : (r : Refusal) → AmendmentRefusal s m r → amendment_verdict s m ≡ Faulty r
  unfolding amendment_judged
  refused_amendment = refused_so (fault_at s m) (length m) amendment_size

  -- ---- a good amendment

  words_good : amendment_verdict s m ≡ Sound → WordsGoodBy (fault_at s m) (length m) amendment_size
  unfolding amendment_judged
  words_good = what_accepted (fault_at s m) (length m) amendment_size

  pub good_amendment : amendment_verdict s m ≡ Sound → GoodAmendment s m
  good_amendment e =
      let words = words_good e in
      let number = no_fault_within 2 1 (rows s) (word m 0) (omega arith) (words.good 0 (omega arith)).no_fault in
      record {
        five_words = words.none_follows;
        number_least = number.0;
        number_most = number.1;
        good_row =
            row.good_row (resecuritisation s) (in_hundredths s) (word m 1) (word m 2) (word m 3) (word m 4)
            (words.good 1 (omega arith)).no_fault
            (words.good 2 (omega arith)).no_fault
            (words.good 3 (omega arith)).no_fault
            (words.good 4 (omega arith)).no_fault;
      }

  no_fault_at : GoodAmendment s m → (p : ℕ) → p < amendment_size → fault_at s m p ≡ 0
  no_fault_at g zero h = simp (within_is 1 (rows s) (word m 0) g.number_least g.number_most)
  no_fault_at g (suc zero) h = row.exposure_good _ _ _ _ _ _ g.good_row
  no_fault_at g (suc (suc zero)) h = row.nominal_good _ _ _ _ _ _ g.good_row
  no_fault_at g (suc (suc (suc zero))) h = row.weight_good _ _ _ _ _ _ g.good_row
  no_fault_at g (suc (suc (suc (suc zero)))) h = row.row_status_good _ _ _ _ _ _ g.good_row
  no_fault_at g (suc (suc (suc (suc (suc p))))) h = absurd (omega arith)

  pub amendment_good : GoodAmendment s m → amendment_verdict s m ≡ Sound
  unfolding amendment_judged
  amendment_good g =
      accepted_so (fault_at s m) (length m) amendment_size (record {
        good = λ p h. record { there = omega (arith, g.five_words); no_fault = no_fault_at g p h };
        none_follows = g.five_words;
      })

-- the row's number, where the amendment is good
pub row_there : (s m : List ℕ) → amendment_verdict s m ≡ Sound → amended_row m < rows s
row_there s m good = let g = good_amendment s m good in omega (arith, g.number_least, g.number_most)
