-- Steps of the judgement: the verdict on no words is sound, the next word's verdict is the verdict so far, and a fault stays the verdict on all that
-- follows. No axioms.
use Rattle.std.specs.Prelude.{IsErrAnd}
use Rattle.std.specs.Prelude.{Result, Err}
use Rattle.std.proofs.lemmas.Result.{err_from_is_err_and}
use mathlib.Core.List.{List}
use mathlib.Core.Path.{◌≡◌, refl, ◌∙◌, sym, ap}
use Prim.Native.Nat.{ℕ, ◌+◌, ◌≤◌, ◌<◌}
use native.Mathlib.Omega.{arith}
use lib.ListN.{length}
use Rattle.judgement.specs.DealSheet.{needed}
use Rattle.judgement.specs.Refusals.{fault, judge_with, judge, or_else, first_of, judged, words_follow, words_verdict}
use Rattle.judgement.specs.Verdicts.{Refusal, Verdict, Sound, Faulty, refusal_of, verdict_of}
use Rattle.judgement.specs.declared.Refusal.{Refusal as DeclaredRefusal}
use Rattle.judgement.proofs.FirstFault.{or_else_sound, first_of_prefix, first_of_stays}
use Rattle.judgement.proofs.Judgement.{judged_next}

pub none_judged : (s : List ℕ) → judged s 0 ≡ Sound
unfolding first_of
none_judged s = refl

pub sound_before : (s : List ℕ) (j k : ℕ) → judged s k ≡ Sound → j ≤ k → judged s j ≡ Sound
sound_before s j k e h = first_of_prefix (judge s) j k h e

pub word_judged :
    (s : List ℕ) (p : ℕ) {number : ℕ} {v : Verdict} → judged s p ≡ Sound → fault s p ≡ number → v ≡ judge_with (length s) p number →
    v ≡ judged s (p + 1)
word_judged s p sound is e = e ∙ ap (λ (n : ℕ). judge_with (length s) p n) (sym is) ∙ sym (judged_next s p sound)

-- a verdict that is not sound is a fault
pub faulty_unless_sound : (v : Verdict) → (v ≡ Sound → ⊥) → (r : Refusal) × (v ≡ Faulty r)
faulty_unless_sound Sound unsound = absurd (unsound refl)
faulty_unless_sound (Faulty r) unsound = (r, refl)

-- of two verdicts the first decides where it is a fault
pub fault_decides : (first later : Verdict) {v : Verdict} {r : Refusal} → v ≡ Faulty r → v ≡ first → v ≡ or_else first later
fault_decides first later faulty e = simp (sym e ∙ faulty) faulty

pub needed_sound : (s : List ℕ) → words_verdict s ≡ Sound → judged s (needed s) ≡ Sound
unfolding words_verdict
needed_sound s e = (or_else_sound (judged s (needed s)) (words_follow s) e).0

-- ---- what a `?` hands on

-- an error of the same type is handed on as it is
pub handed_on : {T E : Type 0} {answer : Result T E} {e : E} → IsErrAnd answer (λ d. d ≡ e) → answer ≡ Err e
handed_on {answer = answer} handed =
    let same = err_from_is_err_and answer handed in
    same.1 ∙ ap Err same.2

-- a refusal of the first j judgements by any rule stays the verdict on all that follow
pub refusal_stays_by :
    (f : ℕ → Verdict) (j k : ℕ) {answer : Result (Unit {0}) DeclaredRefusal} {r : DeclaredRefusal} → answer ≡ Err r →
    Faulty (refusal_of r) ≡ first_of f j → j ≤ k → verdict_of answer ≡ first_of f k
refusal_stays_by f j k {r = r} handed here h = ap verdict_of handed ∙ sym (first_of_stays f j k (refusal_of r) h (sym here))

-- the same for the words of a sheet
pub refusal_stays :
    (s : List ℕ) (j k : ℕ) {answer : Result (Unit {0}) DeclaredRefusal} {r : DeclaredRefusal} → answer ≡ Err r →
    Faulty (refusal_of r) ≡ judged s j → j ≤ k → verdict_of answer ≡ judged s k
refusal_stays s j k handed here h = refusal_stays_by (judge s) j k handed here h

-- the word at p, where all before it are good: it is good, or its refusal stays

pub word_sound :
    (s : List ℕ) (p : ℕ) {number : ℕ} → judged s p ≡ Sound → fault s p ≡ number → Sound ≡ judge_with (length s) p number → judged s (p + 1) ≡ Sound
word_sound s p before is good = sym (word_judged s p before is good)

pub word_refused :
    (s : List ℕ) (p k : ℕ) {number : ℕ} {answer : Result (Unit {0}) DeclaredRefusal} {r : DeclaredRefusal} → judged s p ≡ Sound →
    fault s p ≡ number → answer ≡ Err r → Faulty (refusal_of r) ≡ judge_with (length s) p number → p < k → verdict_of answer ≡ judged s k
word_refused s p k before is handed refused h = refusal_stays s (p + 1) k handed (word_judged s p before is refused) (omega arith)
