-- The verdict on a sheet in the order in which it is found, and what answer and results it makes. No axioms.
use mathlib.Core.List.{List, ◌++◌}
use mathlib.Core.Path.{◌≡◌, sym}
use Prim.Native.Nat.{ℕ, ◌*◌, ◌≤◌, ◌<◌}
use Rattle.std.specs.Prelude.{Result, Ok, Err}
use lib.ListN.{length, drop}
use borrow.Author.Tests.{lt-ltb, le-ltb}
use Rattle.limits.specs.SheetSize.{line_size}
use Rattle.charge.specs.declared.Sums.{Sums}
use Rattle.judgement.specs.DealSheet.{tranche_count}
use Rattle.judgement.specs.LaidOut.{LaidOut}
use Rattle.judgement.specs.Refusals.{refused, first_of, words_verdict}
use Rattle.judgement.specs.declared.Layout.{Layout}
use Rattle.judgement.specs.Verdicts.{Refusal, Verdict, Sound, Faulty, refusal_of}
use Rattle.judgement.proofs.WordsLaw.{laid_out}
use Rattle.pool.specs.SummedPool.{OpenPool}
use Rattle.deal.specs.Lines.{terms_for, terms}
use Rattle.deal.specs.Refusals.{thin_verdict, verdict}
use Rattle.deal.specs.DemandThree.{KeepsDemandThree, KeepsSeventhWord}
use Rattle.deal.specs.declared.Weighed.{Weighed}
use Rattle.deal.specs.Results.{reply_of, reply_to, lines, results_after}
use Rattle.judgement.specs.declared.Refusal.{Refusal as Declared}
use Rattle.deal.proofs.DemandThreeLaw.{keeps_demand_three, keeps_seventh_word}

-- ---- an opened pool

pub open_laid_out : (s : List ℕ) (l : Layout) (q : Sums) → OpenPool s l q → LaidOut s l
open_laid_out s l q pool = laid_out s l pool.sound pool.is_layout

pub open_terms : (s : List ℕ) (l : Layout) (q : Sums) → OpenPool s l q → terms_for l q ≡ terms s
unfolding terms
open_terms s l q pool = rw (pool.is_layout, pool.are_sums)

-- ---- words and 3, then the room for results, then thickness

pub refused_by_words : (s : List ℕ) (room : ℕ) {r : Refusal} → words_verdict s ≡ Faulty r → verdict s room ≡ Faulty r
unfolding verdict
refused_by_words s room e = rw e

pub refused_for_room : (s : List ℕ) (room : ℕ) → words_verdict s ≡ Sound → room < line_size * tranche_count s → verdict s room ≡ refused 14 0
unfolding verdict
refused_for_room s room e short = simp (e, lt-ltb room (line_size * tranche_count s) short)

pub decided_by_thickness :
    (s : List ℕ) (room : ℕ) {w : Verdict} → words_verdict s ≡ Sound → line_size * tranche_count s ≤ room →
    w ≡ first_of (λ i. thin_verdict s i) (tranche_count s) → verdict s room ≡ w
unfolding verdict
decided_by_thickness s room e enough e' = simp (e, le-ltb room (line_size * tranche_count s) enough) (sym e')

-- ---- the answer and the results

pub refused_answer :
    (s old : List ℕ) {a : Result Weighed Declared} {r : Declared} → a ≡ Err r → verdict s (length old) ≡ Faulty (refusal_of r) →
    (reply_of a ≡ reply_to s (length old)) × ((old ≡ results_after s old) × (KeepsDemandThree s (length old) old × KeepsSeventhWord s (length old) old))
unfolding reply_to results_after
refused_answer s old is e =
    let kept : old ≡ results_after s old = rw e in
    (rw (is, e), (kept, (keeps_demand_three s old old kept, keeps_seventh_word s old old kept)))

pub weighed_answer :
    (s old : List ℕ) {n k : ℕ} {new : List ℕ} → verdict s (length old) ≡ Sound → n ≡ tranche_count s → k ≡ (terms s).charge →
    new ≡ lines s (tranche_count s) ++ drop (line_size * tranche_count s) old →
    (reply_of (Ok (record { count = n; charge = k })) ≡ reply_to s (length old)) × ((new ≡ results_after s old) × (KeepsDemandThree s (length old) new × KeepsSeventhWord s (length old) new))
unfolding reply_to results_after
weighed_answer s old {new = new} e count charge written =
    let due : new ≡ results_after s old = rw e written in
    (rw (e, count, charge), (due, (keeps_demand_three s old new due, keeps_seventh_word s old new due)))
