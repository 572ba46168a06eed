-- The four numbers of a reply settle the answer: no two answers that `weigh` may give have the same numbers. No axioms.
use mathlib.Core.List.{List}
use mathlib.Core.Path.{◌≡◌, refl, ◌∙◌, sym, ap}
use Prim.Native.Nat.{ℕ}
use native.Mathlib.Omega.{arith}
use Rattle.std.specs.Prelude.{Result, Ok, Err}
use Rattle.judgement.specs.DealSheet.{tranche_count}
use Rattle.deal.specs.Lines.{terms}
use Rattle.deal.specs.Refusals.{verdict}
use Rattle.deal.specs.Results.{Reply, reply_of, reply_to}
use Rattle.deal.specs.declared.Weighed.{Weighed}
use Rattle.faults.proofs.ReasonLaws.{same_reason}
use Rattle.judgement.specs.declared.Refusal.{Refusal as Declared}
use Rattle.judgement.specs.Verdicts.{Refusal, Verdict, Sound, Faulty, refusal_of}
use Rattle.deal.proofs.JudgedLaws.{accepted_judged, refusal_numbers}
use Rattle.judgement.proofs.SheetLimits.{tranches_counted, tranches_within}

-- the numbers of an accepted sheet's reply and of a refused one's
reply_accepted :
    (s : List ℕ) (room : ℕ) → verdict s room ≡ Sound →
    reply_to s room ≡ record { number = 0; place = 0; count = tranche_count s; charge = (terms s).charge }
unfolding reply_to
reply_accepted s room e = rw e

reply_refused :
    (s : List ℕ) (room : ℕ) (r : Refusal) → verdict s room ≡ Faulty r →
    reply_to s room ≡ record { number = r.number; place = r.place; count = 0; charge = 0 }
unfolding reply_to
reply_refused s room r e = rw e

pub accepted_answer :
    (s : List ℕ) (room : ℕ) (a : Result Weighed Declared) → verdict s room ≡ Sound → reply_of a ≡ reply_to s room →
    a ≡ Ok (record { count = tranche_count s; charge = (terms s).charge })
accepted_answer s room (Ok w) e same =
    let is = same ∙ reply_accepted s room e in
    let count = ap (λ (x : Reply). x.count) is in
    let charge = ap (λ (x : Reply). x.charge) is in
    ap Ok (rw (count, charge))
accepted_answer s room (Err q) e same =
    let is = ap (λ (x : Reply). x.count) (same ∙ reply_accepted s room e) in
    absurd (omega (arith, is, tranches_within s (tranches_counted s (accepted_judged s room e))))

-- the numbers of a refusal settle it
same_refusal_of : (q r : Declared) → refusal_of q ≡ refusal_of r → q ≡ r
same_refusal_of q r e =
    let reason = same_reason q.reason r.reason (ap (λ (x : Refusal). x.number) e) in
    let place = ap (λ (x : Refusal). x.place) e in
    rw (reason, place)

pub refused_answer_is :
    (s : List ℕ) (room : ℕ) (r : Refusal) (a : Result Weighed Declared) → verdict s room ≡ Faulty r → reply_of a ≡ reply_to s room →
    (q : Declared) × ((a ≡ Err q) × (refusal_of q ≡ r))
refused_answer_is s room r (Ok w) e same =
    let is = ap (λ (x : Reply). x.number) (same ∙ reply_refused s room r e) in
    absurd (refusal_numbers s room r e (sym is))
refused_answer_is s room r (Err q) e same =
    let is = same ∙ reply_refused s room r e in
    let number = ap (λ (x : Reply). x.number) is in
    let place = ap (λ (x : Reply). x.place) is in
    (q, (refl, rw (number, place)))

pub answer_settled : (s : List ℕ) (room : ℕ) (a b : Result Weighed Declared) → reply_of a ≡ reply_to s room → reply_of b ≡ reply_to s room → a ≡ b
answer_settled s room a b same same' = by_verdict (verdict s room) refl
  where
    by_verdict : (v : Verdict) → verdict s room ≡ v → a ≡ b
    by_verdict Sound e = accepted_answer s room a e same ∙ sym (accepted_answer s room b e same')
    by_verdict (Faulty r) e =
        let (q, (one, its)) = refused_answer_is s room r a e same in
        let (q', (other, its')) = refused_answer_is s room r b e same' in
        one ∙ ap Err (same_refusal_of q q' (its ∙ sym its')) ∙ sym other
