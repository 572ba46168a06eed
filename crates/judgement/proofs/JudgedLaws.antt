-- The judgement of a sheet by steps (Refusals) and in plain relations (Judged) say the same: of each refusal, of acceptance, and which numbers
-- no refusal by the words has. No axioms.
use mathlib.Core.List.{List}
use mathlib.Core.Path.{◌≡◌}
use Prim.Native.Nat.{ℕ, ◌-◌, ◌≤◌}
use native.Mathlib.Omega.{arith}
use lib.Dec.{ltb, eqb}
use lib.ListN.{length}
use Rattle.limits.specs.SheetSize.{facts_least, facts_most, rows_most, row_size, tranches_most, tranche_size, irb_rows, irb_size, word_limit}
use Rattle.faults.proofs.FaultNumbers.{WordNumber, picked, count_number, fact_number, row_number, tranche_number, irb_number}
use Rattle.judgement.specs.DealSheet.{word, pool_kind, resecuritisation, reporting_date, in_hundredths, pool_at, tranches_at, amount, class, irb_at, needed}
use Rattle.judgement.specs.Refusals.{row_of, column_of, fault, judge, judged, words_verdict}
use Rattle.judgement.specs.JudgedWords.{bad, missing, first_bad, words_follow_lem}
use Rattle.judgement.specs.Judged.{GoodBelow, BadHere, WordsGood, WordsRefusal}
use Rattle.judgement.specs.Verdicts.{Refusal, Sound, Faulty}
use Rattle.judgement.proofs.JudgedWords.{why_refused, refused_so, what_accepted, accepted_so}
use Rattle.judgement.proofs.JudgedWords as JudgedWords
use Rattle.judgement.proofs.SheetLimits.{needed_at_most}

-- ---- the words of a sheet, by the laws of any words

pub good_judged : (s : List ℕ) (k : ℕ) → GoodBelow s k → judged s k ≡ Sound
unfolding judge
good_judged s k = JudgedWords.good_judged (fault s) (length s) k

pub judged_good : (s : List ℕ) (k : ℕ) → judged s k ≡ Sound → GoodBelow s k
unfolding judge
judged_good s k = JudgedWords.judged_good (fault s) (length s) k

pub words_refused : (s : List ℕ) (r : Refusal) → words_verdict s ≡ Faulty r → WordsRefusal s r
unfolding words_verdict judge
words_refused s = why_refused (fault s) (length s) (needed s)

pub refused_words : (s : List ℕ) (r : Refusal) → WordsRefusal s r → words_verdict s ≡ Faulty r
unfolding words_verdict judge
refused_words s = refused_so (fault s) (length s) (needed s)

pub words_accepted : (s : List ℕ) → words_verdict s ≡ Sound → WordsGood s
unfolding words_verdict judge
words_accepted s = what_accepted (fault s) (length s) (needed s)

pub accepted_words : (s : List ℕ) → WordsGood s → words_verdict s ≡ Sound
unfolding words_verdict judge
accepted_words s = accepted_so (fault s) (length s) (needed s)

-- ---- a sheet whose words are good keeps the limit of words

pub sheet_within : (s : List ℕ) → WordsGood s → length s ≤ word_limit
sheet_within s g = omega (arith, g.none_follows, needed_at_most s (good_judged s (needed s) g.good))

-- ---- the numbers: no word's fault has the number 12, 13, 14 or 19, and so no refusal by the words has

pub fault_number : (s : List ℕ) (p : ℕ) → WordNumber (fault s p)
unfolding fault
fault_number s p =
    picked (eqb p 0) _ _ (count_number facts_least facts_most (word s p))
    (picked (ltb p (pool_at s)) _ _ (fact_number (resecuritisation s) p (word s p))
    (picked (eqb p (pool_at s)) _ _ (count_number 1 rows_most (word s p))
    (picked (ltb p (tranches_at s)) _ _
    (row_number (resecuritisation s) (in_hundredths s) (column_of row_size (pool_at s) p) (word s p))
    (picked (eqb p (tranches_at s)) _ _ (count_number 1 tranches_most (word s p))
    (picked (ltb p (irb_at s)) _ _
    (let i = row_of tranche_size (tranches_at s) p in
    tranche_number (reporting_date s) i (class s (i - 1)) (amount s i) (column_of tranche_size (tranches_at s) p) (word s p))
    (picked (eqb p (irb_at s)) _ _ (count_number irb_rows irb_rows (word s p))
    (irb_number (pool_kind s) (column_of irb_size (irb_at s) p) (word s p))))))))

pub words_number : (s : List ℕ) (r : Refusal) → WordsRefusal s r → WordNumber r.number
words_number s r (first_bad b) = at_place b.here
  where
    at_place : BadHere s r → WordNumber r.number
    at_place (bad w) = rw (← w.fault_is) (fault_number s r.place)
    at_place (missing number place) =
        record { not_pool_kind = λ e. omega arith; not_thin = λ e. omega arith; not_room = λ e. omega arith; not_whole_percent = λ e. omega arith }
words_number s r (words_follow_lem w) =
    record {
      not_pool_kind = λ e. omega (arith, w.number_is);
      not_thin = λ e. omega (arith, w.number_is);
      not_room = λ e. omega (arith, w.number_is);
      not_whole_percent = λ e. omega (arith, w.number_is);
    }
