-- Laws of the first fault among f 0, …, f (k − 1): where there is none each is sound, and a fault decides for all that follow. No axioms.
use mathlib.Core.Logic.{◌⊎◌, inl, inr, ⊎_elim}
use mathlib.Core.Path.{◌≡◌, refl, ◌∙◌, subst}
use Prim.Native.Nat.{ℕ, zero, suc, ◌+◌, ◌≤◌, ◌<◌}
use native.Mathlib.Nat.{eq-or-lt_of_le, le_of_suc-le-suc, not-suc-le-zero}
use native.Mathlib.Numerals.{add-one}
use native.Mathlib.Omega.{arith}
use Rattle.judgement.specs.Refusals.{or_else, first_of}
use Rattle.judgement.specs.Verdicts.{Refusal, Verdict, Sound, Faulty}

-- of two verdicts, the first decides where it is a fault
pub or_else_sound : (v w : Verdict) → or_else v w ≡ Sound → (v ≡ Sound) × (w ≡ Sound)
or_else_sound Sound w e = (refl, e)
or_else_sound (Faulty r) w e = absurd (let z : ◌≡◌ {A = ℕ} 0 1 = cc in omega arith)

pub or_else_faulty : (v w : Verdict) (r : Refusal) → or_else v w ≡ Faulty r → (v ≡ Faulty r) ⊎ ((v ≡ Sound) × (w ≡ Faulty r))
or_else_faulty Sound w r e = inr (refl, e)
or_else_faulty (Faulty q) w r e = inl e

-- the same by steps: the last of the k verdicts is looked at where all before it are sound
step_sound : (f : ℕ → Verdict) (k : ℕ) → first_of f (suc k) ≡ Sound → (first_of f k ≡ Sound) × (f k ≡ Sound)
unfolding first_of
step_sound f k e = or_else_sound (first_of f k) (f k) e

step_next : (f : ℕ → Verdict) (k : ℕ) → first_of f k ≡ Sound → first_of f (suc k) ≡ f k
unfolding first_of
step_next f k e = rw e

step_stays : (f : ℕ → Verdict) (k : ℕ) (r : Refusal) → first_of f k ≡ Faulty r → first_of f (suc k) ≡ Faulty r
unfolding first_of
step_stays f k r e = rw e

pub first_of_sound : (f : ℕ → Verdict) (k : ℕ) → first_of f k ≡ Sound → (i : ℕ) → i < k → f i ≡ Sound
first_of_sound f zero e i h = absurd (not-suc-le-zero h)
first_of_sound f (suc k) e i h =
    ⊎_elim
    (λ same. rw same (step_sound f k e).1)
    (λ before. first_of_sound f k (step_sound f k e).0 i before)
    (eq-or-lt_of_le (le_of_suc-le-suc h))

pub first_of_all : (f : ℕ → Verdict) (k : ℕ) → ((i : ℕ) → i < k → f i ≡ Sound) → first_of f k ≡ Sound
unfolding first_of
first_of_all f zero each = refl
first_of_all f (suc k) each =
    step_next f k (first_of_all f k (λ i h. each i (omega arith))) ∙ each k (omega arith)

pub first_of_prefix : (f : ℕ → Verdict) (j k : ℕ) → j ≤ k → first_of f k ≡ Sound → first_of f j ≡ Sound
first_of_prefix f j k h e = first_of_all f j (λ i l. first_of_sound f k e i (omega arith))

pub first_of_next : (f : ℕ → Verdict) (k : ℕ) → first_of f k ≡ Sound → first_of f (k + 1) ≡ f k
first_of_next f k e = rw add-one (step_next f k e)

pub first_of_stays : (f : ℕ → Verdict) (j k : ℕ) (r : Refusal) → j ≤ k → first_of f j ≡ Faulty r → first_of f k ≡ Faulty r
first_of_stays f j zero r h e = rw (← (let z : j ≡ 0 = omega arith in z)) e
first_of_stays f j (suc k) r h e =
    ⊎_elim
    (λ same. subst (λ (n : ℕ). first_of f n ≡ Faulty r) same e)
    (λ before. step_stays f k r (first_of_stays f j k r (le_of_suc-le-suc before) e))
    (eq-or-lt_of_le h)

pub first_of_same : (f g : ℕ → Verdict) (k : ℕ) → ((i : ℕ) → i < k → f i ≡ g i) → first_of f k ≡ first_of g k
unfolding first_of
first_of_same f g zero same = refl
first_of_same f g (suc k) same =
    rw (first_of_same f g k (λ i h. same i (omega arith)), same k (omega arith))

-- the verdict that decides: the first that is a fault
pub record FirstFault (f : ℕ → Verdict) (k : ℕ) (r : Refusal) : Type 0 where
  pub at : ℕ
  pub below : at < k
  pub faulty : f at ≡ Faulty r
  pub before : (j : ℕ) → j < at → f j ≡ Sound

pub first_of_faulty : (f : ℕ → Verdict) (k : ℕ) (r : Refusal) → first_of f k ≡ Faulty r → FirstFault f k r
unfolding first_of
first_of_faulty f zero r e = absurd (let z : ◌≡◌ {A = ℕ} 0 1 = cc in omega arith)
first_of_faulty f (suc k) r e =
    ⊎_elim
    (λ earlier.
    let first = first_of_faulty f k r earlier in
    record { at = first.at; below = omega arith; faulty = first.faulty; before = first.before })
    (λ here. record { at = k; below = omega arith; faulty = here.1; before = first_of_sound f k here.0 })
    (or_else_faulty (first_of f k) (f k) r e)

pub faulty_first_of : (f : ℕ → Verdict) (k : ℕ) (r : Refusal) → FirstFault f k r → first_of f k ≡ Faulty r
faulty_first_of f k r first =
    first_of_stays f (suc first.at) k r (omega arith)
    (step_next f first.at (first_of_all f first.at first.before) ∙ first.faulty)
