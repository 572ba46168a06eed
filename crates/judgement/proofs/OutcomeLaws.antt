-- The numbers of an outcome settle it, the verdict that left it and the answer that has them; and what a verdict leaves. No axioms.
use Rattle.std.specs.Prelude.{Result, Ok, Err}
use Rattle.faults.proofs.ReasonLaws.{same_reason}
use mathlib.Core.Path.{◌≡◌, refl, sym, ap}
use Prim.Native.Nat.{ℕ}
use native.Mathlib.Omega.{arith}
use Rattle.judgement.specs.Outcome.{Outcome, found, refused_by, outcome, numbers_of}
use Rattle.judgement.specs.Verdicts.{Refusal, Verdict, Sound, Faulty, refusal_of}
use Rattle.judgement.specs.declared.Refusal.{Refusal as DeclaredRefusal}

module _ {A : Type 0} where
  pub same_found : (a b : A) → ◌≡◌ {A = Outcome A} (found a) (found b) → a ≡ b
  same_found a b e = cc

  -- a refusal is its number and place
  pub same_refusal : (q r : Refusal) → ◌≡◌ {A = Outcome A} (refused_by q) (refused_by r) → q ≡ r
  same_refusal q r e =
      let number : q.number ≡ r.number = cc in
      let place : q.place ≡ r.place = cc in
      rw (number, place)

  pub found_not_refused : (a : A) (r : Refusal) → found a ≡ refused_by r → ⊥
  found_not_refused a r e = let z : ◌≡◌ {A = ℕ} 0 1 = cc in omega arith

  -- ---- the outcome from the verdict

  pub refused_when : (r : Refusal) (b : A) (v : Verdict) → v ≡ Faulty r → refused_by r ≡ outcome b v
  refused_when r b v e = rw e refl

  pub found_when : (a b : A) (v : Verdict) → v ≡ Sound → a ≡ b → found a ≡ outcome b v
  found_when a b v e same = rw (e, same) refl

  -- ---- the verdict from the outcome

  pub found_means : (a b : A) (v : Verdict) → found a ≡ outcome b v → (v ≡ Sound) × (a ≡ b)
  found_means a b Sound e = (refl, same_found a b e)
  found_means a b (Faulty r) e = absurd (found_not_refused a r e)

  pub refused_means : (r : Refusal) (b : A) (v : Verdict) → refused_by r ≡ outcome b v → v ≡ Faulty r
  refused_means r b Sound e = absurd (found_not_refused b r (sym e))
  refused_means r b (Faulty q) e = ap Faulty (same_refusal q r (sym e))

-- ---- the answer from its numbers

-- a refusal is its reason and place
pub refusal_settled : (q r : DeclaredRefusal) → refusal_of q ≡ refusal_of r → q ≡ r
refusal_settled q r e =
    let reason : q.reason ≡ r.reason = same_reason q.reason r.reason (ap (λ (x : Refusal). x.number) e) in
    let place : q.place ≡ r.place = ap (λ (x : Refusal). x.place) e in
    rw (reason, place)

pub answer_of_numbers : {A : Type 0} (v w : Result A DeclaredRefusal) → numbers_of v ≡ numbers_of w → v ≡ w
answer_of_numbers (Ok a) (Ok b) e = ap Ok (same_found a b e)
answer_of_numbers (Ok a) (Err r) e = absurd (found_not_refused a (refusal_of r) e)
answer_of_numbers (Err q) (Ok b) e = absurd (found_not_refused b (refusal_of q) (sym e))
answer_of_numbers (Err q) (Err r) e = ap Err (refusal_settled q r (same_refusal (refusal_of q) (refusal_of r) e))
