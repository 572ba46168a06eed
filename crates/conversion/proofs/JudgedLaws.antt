-- A sheet is refused a conversion just for the reasons that 02 gives, and is converted where there is none. No axioms.
use mathlib.Core.Bool.{Bool, true, false}
use mathlib.Core.List.{List}
use mathlib.Core.Logic.{⊎_elim}
use mathlib.Core.Path.{◌≡◌, refl, ◌∙◌}
use Prim.Native.Nat.{ℕ, ◌%◌, ◌≤◌}
use native.Mathlib.Omega.{arith}
use lib.Dec.{ltb, eqb}
use lib.ListN.{length}
use borrow.Author.Tests.{ltb-true, ltb-false, eqb-true, eqb-false, lt-ltb, le-ltb, ne_eqb}
use Rattle.limits.specs.SheetSize.{facts_most, word_limit}
use Rattle.judgement.specs.DealSheet.{in_hundredths, rows, weight_at, weight_word}
use Rattle.judgement.specs.Judged.{WordsGood}
use Rattle.judgement.specs.Refusals.{words_verdict}
use Rattle.judgement.specs.Verdicts.{Refusal, Sound, Faulty}
use Rattle.judgement.proofs.FirstFault.{or_else_sound, or_else_faulty, first_of_sound, first_of_all, first_of_faulty, faulty_first_of}
use Rattle.judgement.proofs.Judgement.{sound_if}
use Rattle.judgement.proofs.FilledFacts.{filled_length, words_moved}
use Rattle.judgement.proofs.JudgeSteps.{needed_sound}
use Rattle.judgement.proofs.JudgedWords.{sound_not_faulty, states, faulty_unless, faulty_when, sound_when}
use Rattle.judgement.proofs.JudgedLaws.{words_refused, refused_words, words_accepted, accepted_words, sheet_within}
use Rattle.conversion.specs.RewrittenSheet.{all_facts, rewritten}
use Rattle.conversion.specs.Conversion.{percent_verdict, weights_verdict, output_verdict, conversion_verdict}
use Rattle.conversion.specs.Judged.{rewritten_length, WholePercent, NotWholePercent, AllWhole, WhyNot, by_words, by_weight, by_room, Convertible}
use Rattle.conversion.proofs.RewrittenLaws.{can_fill, rewritten_length_lem}

-- ---- one weight, and all of them

whole_sound : (s : List ℕ) (i : ℕ) → percent_verdict s i ≡ Sound → WholePercent s i
whole_sound s i e =
    eqb-true (weight_word s i % 100) 0 (sound_if (eqb (weight_word s i % 100) 0) Sound (record { number = 19; place = weight_at s i }) e).0

pub weights_sound : (s : List ℕ) → weights_verdict s ≡ Sound → AllWhole s
weights_sound s e fine i row = whole_sound s i (first_of_sound (λ i. percent_verdict s i) (rows s) (rw fine at e) i row)

pub all_whole_sound : (s : List ℕ) → AllWhole s → weights_verdict s ≡ Sound
all_whole_sound s whole = by_unit (in_hundredths s) refl
  where
    by_unit : (h : Bool) → in_hundredths s ≡ h → weights_verdict s ≡ Sound
    by_unit true fine = rw fine (first_of_all (λ i. percent_verdict s i) (rows s) (λ i row. rw (whole fine i row)))
    by_unit false coarse = rw coarse

room_sound : (s : List ℕ) (room : ℕ) → output_verdict s room ≡ Sound → length (rewritten s) ≤ room
room_sound s room e = ltb-false room (length (rewritten s)) (sound_when (ltb room (length (rewritten s))) (record { number = 14; place = 0 }) e)

-- ---- what is not refused

pub converted_means : (s : List ℕ) (room : ℕ) → conversion_verdict s room ≡ Sound → Convertible s room
unfolding conversion_verdict
converted_means s room e =
    let first = or_else_sound (words_verdict s) _ e in
    let second = or_else_sound (weights_verdict s) (output_verdict s room) first.1 in
    record {
      words = words_accepted s first.0;
      all_whole = weights_sound s second.0;
      enough = omega (arith, room_sound s room second.1, rewritten_length_lem s (needed_sound s first.0));
    }

pub converted_when : (s : List ℕ) (room : ℕ) → Convertible s room → conversion_verdict s room ≡ Sound
unfolding conversion_verdict
converted_when s room c =
    let words = accepted_words s c.words in
    simp (
      words,
      all_whole_sound s c.all_whole,
      le-ltb room (length (rewritten s)) (omega (arith, c.enough, rewritten_length_lem s (needed_sound s words))),
    )

-- ---- what is refused

weight_of_fault : (s : List ℕ) (r : Refusal) → WordsGood s → weights_verdict s ≡ Faulty r → NotWholePercent s r
weight_of_fault s r words e = by_unit (in_hundredths s) refl
  where
    by_unit : (h : Bool) → in_hundredths s ≡ h → NotWholePercent s r
    by_unit false coarse = absurd (sound_not_faulty r (rw coarse at e))
    by_unit true fine =
        let first = first_of_faulty (λ i. percent_verdict s i) (rows s) r (rw fine at e) in
        let here = faulty_unless (eqb (weight_word s first.at % 100) 0) 19 (weight_at s first.at) r first.faulty in
        record {
          words = words;
          going_down = fine;
          i = first.at;
          among = first.below;
          not_whole = eqb-false (weight_word s first.at % 100) 0 here.0;
          whole_before = λ j h. whole_sound s j (first.before j h);
          number_is = here.1.0;
          place_is = here.1.1;
        }

pub refused_means : (s : List ℕ) (room : ℕ) (r : Refusal) → conversion_verdict s room ≡ Faulty r → WhyNot s room r
unfolding conversion_verdict
refused_means s room r e =
    ⊎_elim
    (λ words. by_words (words_refused s r words))
    (λ later.
    let good = words_accepted s later.0 in
    ⊎_elim
    (λ weight. by_weight (weight_of_fault s r good weight))
    (λ last.
    let here = faulty_when (ltb room (length (rewritten s))) 14 0 r last.1 in
    by_room
    (record {
      words = good;
      all_whole = weights_sound s last.0;
      short = omega (arith, ltb-true room (length (rewritten s)) here.0, rewritten_length_lem s (needed_sound s later.0));
      number_is = here.1.0;
      place_is = here.1.1;
    }))
    (or_else_faulty (weights_verdict s) (output_verdict s room) r later.1))
    (or_else_faulty (words_verdict s) _ r e)

pub refused_when : (s : List ℕ) (room : ℕ) (r : Refusal) → WhyNot s room r → conversion_verdict s room ≡ Faulty r
unfolding conversion_verdict
refused_when s room r (by_words w) = simp (refused_words s r w)
refused_when s room r (by_weight w) =
    simp (
      accepted_words s w.words,
      w.going_down,
      faulty_first_of (λ i. percent_verdict s i) (rows s) r (record {
        at = w.i;
        below = w.among;
        faulty = simp (ne_eqb (weight_word s w.i % 100) 0 w.not_whole) (states 19 (weight_at s w.i) r w.number_is w.place_is);
        before = λ j h. simp (w.whole_before j h);
      }),
    )
refused_when s room r (by_room w) =
    let words = accepted_words s w.words in
    simp (
      words,
      all_whole_sound s w.all_whole,
      lt-ltb room (length (rewritten s)) (omega (arith, w.short, rewritten_length_lem s (needed_sound s words))),
    )
    (states 14 0 r w.number_is w.place_is)

-- ---- how much room is always enough

-- no rewritten sheet is longer than the longest sheet
pub rewritten_within : (s : List ℕ) → WordsGood s → rewritten_length s ≤ word_limit
rewritten_within s words =
    let c = can_fill s (needed_sound s (accepted_words s words)) in
    let filled_words : words_verdict (all_facts s) ≡ Sound = words_moved facts_most s c ∙ rw (accepted_words s words) in
    omega (arith, filled_length facts_most s c, sheet_within (all_facts s) (words_accepted (all_facts s) filled_words))

-- so what is refused with that much room is refused with any, and in the same way
pub refused_anyway : (s : List ℕ) (room : ℕ) (r : Refusal) → conversion_verdict s word_limit ≡ Faulty r → conversion_verdict s room ≡ Faulty r
refused_anyway s room r e = why (refused_means s word_limit r e)
  where
    why : WhyNot s word_limit r → conversion_verdict s room ≡ Faulty r
    why (by_words w) = refused_when s room r (by_words w)
    why (by_weight w) = refused_when s room r (by_weight w)
    why (by_room w) = absurd (omega (arith, w.short, rewritten_within s w.words))
