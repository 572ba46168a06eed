-- Words judged upward by steps (`judged_words`, Refusals) and in plain relations (JudgedWords) say the same: of each refusal and of acceptance, whatever the rule by which a word is judged. No axioms.
use mathlib.Core.Bool.{Bool, true, false, cond}
use mathlib.Core.Logic.{◌⊎◌, inl, inr, ⊎_elim}
use mathlib.Core.Path.{◌≡◌, refl, sym, ap, ◌∙◌}
use Prim.Native.Nat.{ℕ, ◌≤◌, ◌<◌}
use native.Mathlib.Nat.{eq-or-lt_of_le, lt_irrefl}
use native.Mathlib.Omega.{arith}
use lib.Dec.{ltb, eqb}
use borrow.Author.Tests.{ltb-true, ltb-false, eqb-false, lt-ltb, le-ltb, eq-eqb, ne_eqb}
use Rattle.judgement.specs.Refusals.{refused, judge_with, first_of, judged_words}
use Rattle.judgement.specs.JudgedWords.{GoodWordBy, GoodBelowBy, BadHereBy, bad, missing, FirstBadBy, WordsGoodBy, WordsRefusalBy, first_bad, words_follow_lem}
use Rattle.judgement.specs.Verdicts.{Refusal, Verdict, Sound, Faulty}
use Rattle.judgement.proofs.FirstFault.{or_else_sound, or_else_faulty, FirstFault, first_of_sound, first_of_all, first_of_faulty, faulty_first_of}
use Rattle.judgement.proofs.Judgement.{judge_with_sound}

-- ---- verdicts

pub sound_not_faulty : (r : Refusal) → Sound ≡ Faulty r → ⊥
sound_not_faulty r e = let z : ◌≡◌ {A = ℕ} 0 1 = cc in omega arith

-- a refusal is the one that its verdict states
pub stated : (number place : ℕ) (r : Refusal) → refused number place ≡ Faulty r → (r.number ≡ number) × (r.place ≡ place)
stated number place r e =
    let same : record { number = number; place = place } ≡ r = cc in
    (ap (λ (q : Refusal). q.number) (sym same), ap (λ (q : Refusal). q.place) (sym same))

pub states : (number place : ℕ) (r : Refusal) → r.number ≡ number → r.place ≡ place → refused number place ≡ Faulty r
states number place r n p = rw (← n, ← p)

-- a fault that stands in the second place of a test, and in the first

pub faulty_unless :
    (b : Bool) (number place : ℕ) (r : Refusal) → cond b Sound (refused number place) ≡ Faulty r →
    (b ≡ false) × ((r.number ≡ number) × (r.place ≡ place))
faulty_unless true number place r e = absurd (sound_not_faulty r e)
faulty_unless false number place r e = (refl, stated number place r e)

pub faulty_when :
    (b : Bool) (number place : ℕ) (r : Refusal) → cond b (refused number place) Sound ≡ Faulty r →
    (b ≡ true) × ((r.number ≡ number) × (r.place ≡ place))
faulty_when true number place r e = (refl, stated number place r e)
faulty_when false number place r e = absurd (sound_not_faulty r e)

pub sound_when : (b : Bool) (r : Refusal) → cond b (Faulty r) Sound ≡ Sound → b ≡ false
sound_when true r e = absurd (sound_not_faulty r (sym e))
sound_when false r e = refl

-- ---- one word

-- a word's fault is its own, or that it is missing
record Own (size p number : ℕ) (r : Refusal) : Type 0 where
  there : p < size
  not_zero : number ≡ 0 → ⊥
  number_is : r.number ≡ number
  place_is : r.place ≡ p

record Missing (size p : ℕ) (r : Refusal) : Type 0 where
  past : size ≤ p
  number_is : r.number ≡ 1
  place_is : r.place ≡ size

judge_with_faulty :
    (size p number : ℕ) (r : Refusal) → judge_with size p number ≡ Faulty r → Own size p number r ⊎ Missing size p r
judge_with_faulty size p number r = by_test (ltb p size) refl
  where
    by_test :
        (b : Bool) → ltb p size ≡ b → cond b (cond (eqb number 0) Sound (refused number p)) (refused 1 size) ≡ Faulty r →
        Own size p number r ⊎ Missing size p r
    by_test true t e =
        let own = faulty_unless (eqb number 0) number p r e in
        inl (record {
          there = ltb-true p size t;
          not_zero = eqb-false number 0 own.0;
          number_is = own.1.0;
          place_is = own.1.1;
        })
    by_test false t e =
        let gone = stated 1 size r e in
        inr (record { past = ltb-false p size t; number_is = gone.0; place_is = gone.1 })

-- ---- the words

module _ (fault : ℕ → ℕ) (size : ℕ) where
  abbrev judge_by : ℕ → Verdict
  judge_by p = judge_with size p (fault p)

  good_of_judge : (p : ℕ) → judge_by p ≡ Sound → GoodWordBy fault size p
  good_of_judge p e =
      let good = judge_with_sound size p (fault p) e in
      record { there = good.0; no_fault = good.1 }

  judge_of_good : (p : ℕ) → GoodWordBy fault size p → judge_by p ≡ Sound
  judge_of_good p g = simp (lt-ltb p size g.there, eq-eqb (fault p) 0 g.no_fault)

  pub judged_good : (k : ℕ) → first_of judge_by k ≡ Sound → GoodBelowBy fault size k
  judged_good k e p h = good_of_judge p (first_of_sound judge_by k e p h)

  pub good_judged : (k : ℕ) → GoodBelowBy fault size k → first_of judge_by k ≡ Sound
  good_judged k good = first_of_all judge_by k (λ p h. judge_of_good p (good p h))

  fault_here : (r : Refusal) → BadHereBy fault size r → judge_by r.place ≡ Faulty r
  fault_here r (bad b) =
      simp (lt-ltb r.place size b.there, ne_eqb (fault r.place) 0 (λ z. b.not_zero (sym b.fault_is ∙ z)))
      (states (fault r.place) r.place r (sym b.fault_is) refl)
  fault_here r (missing number place) = simp (le-ltb r.place size (omega arith)) (states 1 size r number place)

  module _ (need : ℕ) where
    first_bad_of_fault : (r : Refusal) → FirstFault judge_by need r → FirstBadBy fault size need r
    first_bad_of_fault r first =
        let before : GoodBelowBy fault size first.at = λ p h. good_of_judge p (first.before p h) in
        ⊎_elim
        (λ own.
        let same : r.place ≡ first.at = own.place_is in
        record {
          before = λ p h. before p (omega arith);
          needed_word = omega arith;
          here = bad (record {
            there = omega arith;
            fault_is = ap fault same ∙ sym own.number_is;
            not_zero = λ z. own.not_zero (sym own.number_is ∙ z);
          });
        })
        (λ gone.
        record {
          before = λ p h. before p (omega arith);
          needed_word = omega arith;
          here = missing gone.number_is gone.place_is;
        })
        (judge_with_faulty size first.at (fault first.at) r first.faulty)

    abbrev follow : Verdict
    follow = cond (ltb need size) (refused 3 need) Sound

    pub why_refused : (r : Refusal) → judged_words fault size need ≡ Faulty r → WordsRefusalBy fault size need r
    why_refused r e =
        ⊎_elim
        (λ early. first_bad (first_bad_of_fault r (first_of_faulty judge_by need r early)))
        (λ late.
        let follows = faulty_when (ltb need size) 3 need r late.1 in
        words_follow_lem (record {
          good = judged_good need late.0;
          more = ltb-true need size follows.0;
          number_is = follows.1.0;
          place_is = follows.1.1;
        }))
        (or_else_faulty (first_of judge_by need) follow r e)

    pub refused_so : (r : Refusal) → WordsRefusalBy fault size need r → judged_words fault size need ≡ Faulty r
    refused_so r (first_bad b) =
        simp (faulty_first_of judge_by need r (record {
          at = r.place;
          below = b.needed_word;
          faulty = fault_here r b.here;
          before = λ p h. judge_of_good p (b.before p h);
        }))
    refused_so r (words_follow_lem f) =
        simp (good_judged need f.good, lt-ltb need size f.more) (states 3 need r f.number_is f.place_is)

    pub what_accepted : judged_words fault size need ≡ Sound → WordsGoodBy fault size need
    what_accepted e =
        let both = or_else_sound (first_of judge_by need) follow e in
        let good = judged_good need both.0 in
        let no_more : size ≤ need = ltb-false need size (sound_when (ltb need size) (record { number = 3; place = need }) both.1) in
        record {
          good = good;
          none_follows = ⊎_elim (λ same. same) (λ fewer. absurd (lt_irrefl size (good size fewer).there)) (eq-or-lt_of_le no_more);
        }

    pub accepted_so : WordsGoodBy fault size need → judged_words fault size need ≡ Sound
    accepted_so g = simp (good_judged need g.good, le-ltb need size (omega (arith, g.none_follows)))
