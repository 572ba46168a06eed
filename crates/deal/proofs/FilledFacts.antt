-- A sheet whose list of facts is filled with zeros gets the answer and the lines that it got before, a refusal at the place to which its word has moved. No axioms.
use mathlib.Core.List.{List, [], ◌∷◌, ◌++◌}
use mathlib.Core.Path.{◌≡◌, refl, ap, ◌∙◌}
use Prim.Native.Nat.{ℕ, suc, ◌+◌, ◌*◌, ◌-◌, ◌≤◌, ◌<◌}
use native.Mathlib.Omega.{arith}
use lib.Dec.{ltb}
use lib.ListN.{length, take, drop, length-append}
use Rattle.limits.specs.SheetSize.{facts_least, facts_most, line_size}
use Rattle.judgement.specs.DealSheet.{pool_at, tranche_count, tranche_at}
use Rattle.judgement.specs.FilledFacts.{CanFill, filled, moved}
use Rattle.judgement.specs.Refusals.{refused, or_else, first_of, words_verdict}
use Rattle.judgement.specs.Verdicts.{Verdict, Sound, Faulty}
use Rattle.judgement.proofs.MovedVerdicts.{at_moved, moved_or_else, moved_cond, first_of_moved}
use Rattle.judgement.proofs.FilledFacts.{same_rows, same_tranche_count, tranche_at_moved, same_row_word, same_tranche_word, filled_same_kind, filled_same_facts, filled_same_irb, filled_same_date, filled_same_unit, kept_place, later_place, words_moved}
use Rattle.judgement.proofs.NeededLaws.{pool_at_least, tranches_at_past_rows}
use Rattle.pool.specs.PoolSums.{pool_sums}
use Rattle.pool.proofs.SameSums.{same_sums_in_order}
use Rattle.weights.specs.ApproachFloorCap.{thin}
use Rattle.deal.specs.InferredRatings.{infers_ratings}
use Rattle.deal.specs.Lines.{terms, tranche}
use Rattle.deal.specs.Refusals.{room_verdict, thin_verdict, verdict}
use Rattle.deal.specs.Results.{reply_to, reply_for, results_for, results_after}
use Rattle.deal.specs.FilledAnswer.{moved_reply, SameWhenFilled}
use Rattle.deal.proofs.LineLaws.{lines_same}
use Rattle.deal.proofs.SameTerms.{same_terms, same_months, alike_tranche}

module _ (n : ℕ) (s : List ℕ) (c : CanFill n s) where
  abbrev f : List ℕ
  f = filled n s

  -- ---- what the tranches share, and what is a tranche's own

  filled_sums : pool_sums f ≡ pool_sums s
  filled_sums = same_sums_in_order s f (same_rows n s c) (filled_same_unit n s c) (λ i k row column. same_row_word n s c i k)

  filled_terms : terms f ≡ terms s
  filled_terms = same_terms s f (filled_same_kind n s c) (filled_same_facts n s c) (filled_same_irb n s c) filled_sums

  filled_tranche : (i : ℕ) → i < tranche_count s → tranche f i ≡ tranche s i
  filled_tranche =
      alike_tranche s f (same_tranche_count n s c) filled_sums (ap infers_ratings filled_terms)
      (λ j k row other column. same_tranche_word n s c j k)
      (λ j row. same_months s f j (filled_same_date n s c) (same_tranche_word n s c j 2))

  -- ---- the verdict

  -- place 0, which refusal 14 and the reply to an accepted sheet have, stays
  zero_kept : 0 ≡ moved n s 0
  zero_kept = kept_place n s c 0 (pool_at_least s)

  room_moved : (room : ℕ) → room_verdict f room ≡ at_moved (moved n s) (room_verdict s room)
  room_moved room =
      rw (same_tranche_count n s c)
      (moved_cond (moved n s) (ltb room (line_size * tranche_count s)) (refused 14 0) Sound (refused 14 0) Sound (ap (refused 14) zero_kept) refl)

  thin_moved : (i : ℕ) → i < tranche_count s → thin_verdict f i ≡ at_moved (moved n s) (thin_verdict s i)
  thin_moved i l =
      rw (filled_tranche i l, filled_terms)
      (moved_cond (moved n s) (thin (tranche s i) (terms s)) (refused 13 (tranche_at s i)) Sound (refused 13 (tranche_at f i)) Sound
      (ap (refused 13) (tranche_at_moved n s c i ∙ later_place n s c (tranche_at s i) (omega (arith, tranches_at_past_rows s))))
      refl)

  verdict_moved : (room : ℕ) → verdict f room ≡ at_moved (moved n s) (verdict s room)
  unfolding verdict
  verdict_moved room =
      rw (
        words_moved n s c,
        room_moved room,
        same_tranche_count n s c,
        first_of_moved (moved n s) (λ i. thin_verdict s i) (λ i. thin_verdict f i) (tranche_count s) thin_moved,
        moved_or_else (moved n s) (room_verdict s room) (first_of (λ i. thin_verdict s i) (tranche_count s)),
      )
      (moved_or_else (moved n s) (words_verdict s) (or_else (room_verdict s room) (first_of (λ i. thin_verdict s i) (tranche_count s))))

  -- ---- the answer and the results

  reply_moved : (v : Verdict) → reply_for f (at_moved (moved n s) v) ≡ moved_reply n s (reply_for s v)
  reply_moved Sound = simp (same_tranche_count n s c, filled_terms, ← zero_kept)
  reply_moved (Faulty r) = refl

  results_kept : (old : List ℕ) (v : Verdict) → results_for f old (at_moved (moved n s) v) ≡ results_for s old v
  results_kept old Sound = rw (same_tranche_count n s c, lines_same s f (tranche_count s) filled_terms filled_tranche)
  results_kept old (Faulty r) = refl

  pub filled_facts : SameWhenFilled n s
  unfolding reply_to results_after
  filled_facts = record {
    same_reply = λ room. rw (verdict_moved room) (reply_moved (verdict s room));
    same_results = λ old. rw (verdict_moved (length old)) (results_kept old (verdict s (length old)));
  }

-- ---- a sheet, and the same sheet with one fact more, which is 0: S-1's "a sheet with four facts counts as 0", S-3's "0 or absent means months as before.", S-9's 0 for whole percent

take_whole : (xs ys : List ℕ) → take (length xs) (xs ++ ys) ≡ xs
take_whole [] ys = refl
take_whole (x ∷ xs) ys = ap (λ (r : List ℕ). x ∷ r) (take_whole xs ys)

drop_whole : (xs ys : List ℕ) → drop (length xs) (xs ++ ys) ≡ ys
drop_whole [] ys = refl
drop_whole (x ∷ xs) ys = drop_whole xs ys

module _ (facts rest : List ℕ) where
  -- a sheet with these facts, and what follows them
  abbrev sheet : List ℕ
  sheet = length facts ∷ (facts ++ rest)

  pub one_fact_filled : filled (length facts + 1) sheet ≡ (length facts + 1) ∷ (facts ++ (0 ∷ rest))
  unfolding filled pool_at
  one_fact_filled =
      let more : length facts + 1 - length facts ≡ 1 = omega arith in
      let past : 1 + length facts ≡ suc (length facts) = omega arith in
      rw (more, past, take_whole facts rest, drop_whole facts rest)

  pub one_fact_more : facts_least ≤ length facts → length facts < facts_most → SameWhenFilled (length facts + 1) sheet
  unfolding pool_at
  one_fact_more least most =
      filled_facts (length facts + 1) sheet
      (record { least = least; most = omega arith; limit = omega arith; there = omega (arith, length-append facts rest) })
