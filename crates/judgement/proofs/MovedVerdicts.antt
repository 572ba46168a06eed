-- Verdicts whose places have moved, by any function of places: of two verdicts, of a word, and of the first of many, among which some that are sound may have been put. No
-- axioms.
use mathlib.Core.Bool.{Bool, true, false, cond}
use mathlib.Core.Path.{◌≡◌, refl, ap, ◌∙◌}
use Prim.Native.Nat.{ℕ, zero, suc, ◌+◌, ◌≤◌, ◌<◌}
use native.Mathlib.Nat.{add-zero}
use native.Mathlib.Omega.{arith}
use lib.Dec.{ltb, eqb}
use Rattle.judgement.specs.Refusals.{refused, judge_with, or_else, first_of}
use Rattle.judgement.specs.Verdicts.{Verdict}
use Rattle.judgement.specs.Verdicts.{Sound, Faulty}

abbrev pub at_moved : (ℕ → ℕ) → Verdict → Verdict
at_moved m Sound = Sound
at_moved m (Faulty r) = refused r.number (m r.place)

pub moved_or_else : (m : ℕ → ℕ) (v w : Verdict) → or_else (at_moved m v) (at_moved m w) ≡ at_moved m (or_else v w)
moved_or_else m Sound w = refl
moved_or_else m (Faulty r) w = refl

or_else_nothing : (v : Verdict) → or_else v Sound ≡ v
or_else_nothing Sound = refl
or_else_nothing (Faulty r) = refl

-- one verdict of two, by a test
pub moved_cond : (m : ℕ → ℕ) (b : Bool) (v w v' w' : Verdict) → v' ≡ at_moved m v → w' ≡ at_moved m w → cond b v' w' ≡ at_moved m (cond b v w)
moved_cond m true v w v' w' e e' = e
moved_cond m false v w v' w' e e' = e'

pub judge_with_moved :
    (m : ℕ → ℕ) (size p number size' p' : ℕ) → ltb p' size' ≡ ltb p size → p' ≡ m p → size' ≡ m size →
    judge_with size' p' number ≡ at_moved m (judge_with size p number)
judge_with_moved m size p number size' p' test place end =
    ap (λ (b : Bool). cond b (cond (eqb number 0) Sound (refused number p')) (refused 1 size')) test ∙
    moved_cond m (ltb p size) _ _ _ _
    (moved_cond m (eqb number 0) Sound (refused number p) Sound (refused number p') refl (ap (refused number) place))
    (ap (refused 1) end)

-- the first of verdicts that have moved one by one, and of those among which some that are sound were put
pub first_of_moved :
    (m : ℕ → ℕ) (f g : ℕ → Verdict) (k : ℕ) → ((i : ℕ) → i < k → g i ≡ at_moved m (f i)) → first_of g k ≡ at_moved m (first_of f k)
unfolding first_of
first_of_moved m f g zero each = refl
first_of_moved m f g (suc k) each =
    rw (first_of_moved m f g k (λ i h. each i (omega arith)), each k (omega arith)) (moved_or_else m (first_of f k) (f k))

pub first_of_some_more : (g : ℕ → Verdict) (a d : ℕ) → ((i : ℕ) → a ≤ i → i < a + d → g i ≡ Sound) → first_of g (a + d) ≡ first_of g a
unfolding first_of
first_of_some_more g a zero sound = ap (first_of g) (add-zero a)
first_of_some_more g a (suc d) sound =
    let next : a + suc d ≡ suc (a + d) = omega arith in
    rw (next, sound (a + d) (omega arith) (omega arith), first_of_some_more g a d (λ i h l. sound i h (omega arith))) (or_else_nothing (first_of g a))

pub first_of_shifted :
    (m : ℕ → ℕ) (f g : ℕ → Verdict) (a d k : ℕ) → first_of g (a + d) ≡ at_moved m (first_of f a) →
    ((i : ℕ) → a ≤ i → g (i + d) ≡ at_moved m (f i)) → first_of g (a + k + d) ≡ at_moved m (first_of f (a + k))
unfolding first_of
first_of_shifted m f g a d zero start each = rw add-zero start
first_of_shifted m f g a d (suc k) start each =
    let ours : a + suc k ≡ suc (a + k) = omega arith in
    let theirs : suc (a + k) + d ≡ suc (a + k + d) = omega arith in
    rw (ours, theirs, first_of_shifted m f g a d k start each, each (a + k) (omega arith)) (moved_or_else m (first_of f (a + k)) (f (a + k)))
