-- Refusals by steps and in plain relations say the same, for the whole verdict on a sheet; a refusal's number is never 0, nor 14 but for want of room. What the words
-- decide is in JudgedLaws.antt of `judgement`. No axioms.
use mathlib.Core.Bool.{false}
use mathlib.Core.List.{List}
use mathlib.Core.Logic.{⊎_elim}
use mathlib.Core.Path.{◌≡◌}
use Prim.Native.Nat.{ℕ, ◌*◌, ◌≤◌}
use native.Mathlib.Omega.{arith}
use lib.Dec.{ltb}
use borrow.Author.Tests.{ltb-true, ltb-false, lt-ltb, le-ltb}
use Rattle.limits.specs.SheetSize.{line_size}
use Rattle.judgement.specs.DealSheet.{tranche_count, tranche_at, needed}
use Rattle.weights.specs.ApproachFloorCap.{thin}
use Rattle.deal.specs.Lines.{terms, tranche}
use Rattle.judgement.specs.Refusals.{or_else, first_of, judged, words_verdict}
use Rattle.deal.specs.Refusals.{room_verdict, thin_verdict, verdict}
use Rattle.judgement.specs.JudgedWords.{bad, missing, first_bad, words_follow_lem}
use Rattle.judgement.specs.Judged.{BadHere, WordsGood}
use Rattle.deal.specs.Judged.{RoomShort, TrancheThin, Why, by_words, by_room, by_thinness, Accepted}
use Rattle.judgement.specs.Verdicts.{Refusal, Sound, Faulty}
use Rattle.judgement.proofs.FirstFault.{or_else_sound, or_else_faulty, FirstFault, first_of_sound, first_of_all, first_of_faulty, faulty_first_of}
use Rattle.judgement.proofs.JudgedWords.{states, faulty_when, sound_when}
use Rattle.judgement.proofs.JudgedLaws.{good_judged, words_refused, refused_words, words_accepted, accepted_words, words_number}

pub room_sound : (s : List ℕ) (room : ℕ) → room_verdict s room ≡ Sound → line_size * tranche_count s ≤ room
room_sound s room e =
    ltb-false room (line_size * tranche_count s) (sound_when (ltb room (line_size * tranche_count s)) (record { number = 14; place = 0 }) e)

thin_tranche_of_fault :
    (s : List ℕ) (room : ℕ) (r : Refusal) → WordsGood s → line_size * tranche_count s ≤ room →
    FirstFault (λ i. thin_verdict s i) (tranche_count s) r → TrancheThin s room r
thin_tranche_of_fault s room r words enough first =
    let here = faulty_when (thin (tranche s first.at) (terms s)) 13 (tranche_at s first.at) r first.faulty in
    record {
      words = words;
      enough = enough;
      i = first.at;
      among = first.below;
      is_thin = here.0;
      none_before = λ j h. sound_when (thin (tranche s j) (terms s)) (record { number = 13; place = tranche_at s j }) (first.before j h);
      number_is = here.1.0;
      place_is = here.1.1;
    }

thin_sound : (s : List ℕ) (i : ℕ) → thin_verdict s i ≡ Sound → thin (tranche s i) (terms s) ≡ false
thin_sound s i = sound_when (thin (tranche s i) (terms s)) (record { number = 13; place = tranche_at s i })

pub refused_when : (s : List ℕ) (room : ℕ) (r : Refusal) → Why s room r → verdict s room ≡ Faulty r
unfolding verdict
refused_when s room r (by_words w) = simp (refused_words s r w)
refused_when s room r (by_room w) =
    simp (accepted_words s w.words, lt-ltb room (line_size * tranche_count s) w.short) (states 14 0 r w.number_is w.place_is)
refused_when s room r (by_thinness w) =
    simp (
      accepted_words s w.words,
      le-ltb room (line_size * tranche_count s) w.enough,
      faulty_first_of (λ i. thin_verdict s i) (tranche_count s) r (record {
        at = w.i;
        below = w.among;
        faulty = simp w.is_thin (states 13 (tranche_at s w.i) r w.number_is w.place_is);
        before = λ j h. simp (w.none_before j h);
      }),
    )

pub refused_means : (s : List ℕ) (room : ℕ) (r : Refusal) → verdict s room ≡ Faulty r → Why s room r
unfolding verdict
refused_means s room r e =
    ⊎_elim
    (λ by. by_words (words_refused s r by))
    (λ rest.
    let words = words_accepted s rest.0 in
    ⊎_elim
    (λ by.
    let short = faulty_when (ltb room (line_size * tranche_count s)) 14 0 r by in
    by_room (record {
      words = words;
      short = ltb-true room (line_size * tranche_count s) short.0;
      number_is = short.1.0;
      place_is = short.1.1;
    }))
    (λ thins.
    by_thinness
    (thin_tranche_of_fault s room r words (room_sound s room thins.0)
    (first_of_faulty (λ i. thin_verdict s i) (tranche_count s) r thins.1)))
    (or_else_faulty (room_verdict s room) (first_of (λ i. thin_verdict s i) (tranche_count s)) r rest.1))
    (or_else_faulty (words_verdict s) (or_else (room_verdict s room) (first_of (λ i. thin_verdict s i) (tranche_count s))) r e)

pub accepted_means : (s : List ℕ) (room : ℕ) → verdict s room ≡ Sound → Accepted s room
unfolding verdict
accepted_means s room e =
    let outer = or_else_sound (words_verdict s) (or_else (room_verdict s room) (first_of (λ i. thin_verdict s i) (tranche_count s))) e in
    let inner = or_else_sound (room_verdict s room) (first_of (λ i. thin_verdict s i) (tranche_count s)) outer.1 in
    record {
      words = words_accepted s outer.0;
      enough = room_sound s room inner.0;
      none_thin = λ i h. thin_sound s i (first_of_sound (λ i. thin_verdict s i) (tranche_count s) inner.1 i h);
    }

pub accepted_judged : (s : List ℕ) (room : ℕ) → verdict s room ≡ Sound → judged s (needed s) ≡ Sound
accepted_judged s room e = good_judged s (needed s) (accepted_means s room e).words.good

pub accepted_when : (s : List ℕ) (room : ℕ) → Accepted s room → verdict s room ≡ Sound
unfolding verdict
accepted_when s room a =
    simp (
      accepted_words s a.words,
      le-ltb room (line_size * tranche_count s) a.enough,
      first_of_all (λ i. thin_verdict s i) (tranche_count s) (λ i h. simp (a.none_thin i h)),
    )

-- a refusal's number is not 0, and is 14 only for want of room
pub refusal_numbers : (s : List ℕ) (room : ℕ) (r : Refusal) → verdict s room ≡ Faulty r → r.number ≡ 0 → ⊥
refusal_numbers s room r e z = why (refused_means s room r e)
  where
    why : Why s room r → ⊥
    why (by_words (first_bad b)) = at_place b.here
      where
        at_place : BadHere s r → ⊥
        at_place (bad w) = w.not_zero z
        at_place (missing number place) = omega arith
    why (by_words (words_follow_lem w)) = omega (arith, w.number_is)
    why (by_room w) = omega (arith, w.number_is)
    why (by_thinness w) = omega (arith, w.number_is)

pub by_room_alone : (s : List ℕ) (room : ℕ) (r : Refusal) → verdict s room ≡ Faulty r → r.number ≡ 14 → RoomShort s room r
by_room_alone s room r e z = why (refused_means s room r e)
  where
    why : Why s room r → RoomShort s room r
    why (by_words w) = absurd ((words_number s r w).not_room z)
    why (by_room w) = w
    why (by_thinness w) = absurd (omega (arith, w.number_is))
