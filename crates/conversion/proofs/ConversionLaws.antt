-- A sheet that is converted gets the answer and the lines that it got before, a refusal at the place to which its word has moved, and it is converted back to the sheet whose list of facts is filled. No
-- axioms.
use mathlib.Core.Bool.{Bool, true, false, not}
use mathlib.Core.List.{List}
use mathlib.Core.Logic.{⊎_elim}
use mathlib.Core.Path.{◌≡◌, refl, sym, ◌∙◌}
use Prim.Native.Nat.{ℕ, ◌*◌, ◌-◌, ◌%◌, ◌≤◌, ◌<◌}
use native.Mathlib.Nat.{eq-zero-or-pos}
use native.Mathlib.Omega.{arith}
use lib.Dec.{eqb}
use lib.ListN.{length, get_or-eq_default}
use lib.Seq.{ext_get_or}
use borrow.Author.Tests.{eqb-true, le-ltb, le-leb, ne_eqb}
use Rattle.limits.specs.SheetSize.{facts_most}
use Rattle.judgement.specs.DealSheet.{word, has_fact, unit_at, in_hundredths, pool_at, rows, weight_at, weight_word, weight_unit, tranches_at, needed}
use Rattle.judgement.specs.Refusals.{judged, words_verdict}
use Rattle.judgement.specs.Verdicts.{Sound}
use Rattle.judgement.proofs.FilledFacts.{count_filled, words_moved, filled_length, filled_same_unit, pool_moved, same_rows, same_row_word, filled_already}
use Rattle.numbers.proofs.Tests.{true_not_false}
use Rattle.faults.proofs.GoodWordsLaw.{no_mark}
use Rattle.judgement.proofs.GoodSheetLaw.{good_sheet, good_sheet_words}
use Rattle.judgement.proofs.JudgeSteps.{needed_sound}
use Rattle.judgement.proofs.JudgedLaws.{words_accepted, accepted_words}
use Rattle.judgement.proofs.NeededLaws.{tranches_at_past_rows}
use Rattle.judgement.proofs.SheetLimits.{fact_there, row_word_there}
use Rattle.deal.specs.EitherUnit.{EitherUnit}
use Rattle.pool.specs.BlockSums.{block_sums}
use Rattle.pool.proofs.SameSums.{same_weight, reweighed_blocks}
use Rattle.deal.proofs.EitherUnit.{good_in_unit, same_blocks_in_unit, either_unit}
use Rattle.deal.proofs.FilledFacts.{filled_facts}
use Rattle.conversion.specs.RewrittenSheet.{all_facts, other_unit, other_weight, is_weight_place, rewritten_word, in_other_unit, rewritten}
use Rattle.conversion.specs.Conversion.{weights_verdict, conversion_verdict}
use Rattle.conversion.specs.ConvertedAnswer.{SameLines, ConvertsBack}
use Rattle.conversion.specs.Judged.{rewritten_length}
use Rattle.conversion.proofs.JudgedLaws.{weights_sound, all_whole_sound, converted_means}
use Rattle.conversion.proofs.RewrittenLaws.{length_each, other_unit_at, weight_place, weight_of, not_weight, can_fill, rewritten_length_lem, first_rewritten, unit_rewritten}

-- ---- a risk weight in the other unit

-- the other unit's fact is its code
other_code : (h : Bool) → eqb (other_unit h) 1 ≡ not h
other_code true = refl
other_code false = refl

-- a whole percent is the same weight in either unit
same_in_hundredths : (h : Bool) (w : ℕ) → (h ≡ true → w % 100 ≡ 0) → weight_unit (not h) * other_weight h w ≡ weight_unit h * w
same_in_hundredths true w whole = omega (arith, whole refl)
same_in_hundredths false w whole = omega arith

-- and its word comes back
there_and_back : (h : Bool) (w : ℕ) → (h ≡ true → w % 100 ≡ 0) → other_weight (not h) (other_weight h w) ≡ w
there_and_back true w whole = omega (arith, whole refl)
there_and_back false w whole = omega arith

-- going up to hundredths gives multiples of 100
hundred : (h : Bool) (w : ℕ) → not h ≡ true → other_weight h w % 100 ≡ 0
hundred true w up = absurd (true_not_false (sym up))
hundred false w up = omega arith

unit_back : (h : Bool) (w : ℕ) → w ≤ 1 → eqb w 1 ≡ h → other_unit (not h) ≡ w
unit_back true w code is = sym (eqb-true w 1 is)
unit_back false w code is = sym (no_mark w code is)

other_unit_code : (h : Bool) → other_unit h ≤ 1
other_unit_code true = omega arith
other_unit_code false = omega arith

-- ---- a sheet that is converted

module _ (s : List ℕ) (words : words_verdict s ≡ Sound) (whole : weights_verdict s ≡ Sound) where
  good : judged s (needed s) ≡ Sound
  good = needed_sound s words

  abbrev f : List ℕ
  f = all_facts s

  abbrev t : List ℕ
  t = rewritten s

  abbrev h : Bool
  h = in_hundredths s

  unit_same : in_hundredths f ≡ h
  unit_same = filled_same_unit facts_most s (can_fill s good)

  -- ---- the sheet with all facts: its words are good, and in hundredths every weight is a whole percent

  filled_words : words_verdict f ≡ Sound
  filled_words = words_moved facts_most s (can_fill s good) ∙ rw words

  count_f : word f 0 ≡ facts_most
  count_f = count_filled facts_most s (can_fill s good)

  unit_before_pool : unit_at < pool_at f
  unfolding pool_at
  unit_before_pool = omega (arith, count_f)

  seven_facts : has_fact f unit_at ≡ true
  seven_facts = le-leb unit_at (word f 0) (omega (arith, count_f))

  -- its seventh fact is the unit's code
  unit_word : (word f unit_at ≤ 1) × (eqb (word f unit_at) 1 ≡ h)
  unit_word =
      let sheet = good_sheet f (words_accepted f filled_words) in
      ((sheet.each_fact unit_at (omega arith) unit_before_pool).code (omega arith) (λ e. omega arith), rw seven_facts at unit_same)

  same_weight_word : (i : ℕ) → weight_word f i ≡ weight_word s i
  same_weight_word i = same_row_word facts_most s (can_fill s good) i 2

  whole_percent : (i : ℕ) → i < rows f → h ≡ true → weight_word f i % 100 ≡ 0
  whole_percent i row fine =
      let row_of_s : i < rows s = omega (arith, same_rows facts_most s (can_fill s good)) in
      rw (same_weight_word i) (weights_sound s whole fine i row_of_s)

  -- ---- the rewritten sheet has the same counts, the other unit and the other weights

  length_t : length t ≡ length f
  unfolding rewritten
  length_t = length_each (rewritten_word f) 0 f

  at : (p : ℕ) → p < length f → word t p ≡ rewritten_word f p (word f p)
  unfolding rewritten
  at p l = other_unit_at f p l

  other_word : (p : ℕ) → (p ≡ unit_at → ⊥) → ((i : ℕ) → i < rows f → p ≡ weight_at f i → ⊥) → word t p ≡ word f p
  other_word p other none =
      ⊎_elim
      (λ past.
      get_or-eq_default t 0 (omega (arith, length_t)) ∙ sym (get_or-eq_default f 0 (omega arith)))
      (λ before. at p (omega arith) ∙ simp (ne_eqb p unit_at other, not_weight f p none))
      (eq-zero-or-pos (length f - p))

  pool_t : pool_at t ≡ pool_at f
  unfolding pool_at
  pool_t = omega (arith, first_rewritten s good, count_f)

  rows_t : rows t ≡ rows f
  unfolding rows
  rows_t = rw pool_t (other_word (pool_at f) (λ e. omega (arith, unit_before_pool)) (λ i row e. omega arith))

  tranches_t : tranches_at t ≡ tranches_at f
  tranches_t = omega (arith, tranches_at_past_rows t, tranches_at_past_rows f, pool_t, rows_t)

  unit_t : in_hundredths t ≡ not h
  unit_t =
      simp (le-leb unit_at (word t 0) (omega (arith, first_rewritten s good)), unit_rewritten s good) (other_code h)

  weight_there : (i : ℕ) → i < rows f → weight_at f i < length f
  weight_there i row =
      let c = can_fill s good in
      omega (
        arith,
        row_word_there s i 2 good (omega (arith, same_rows facts_most s c)) (omega arith),
        pool_moved facts_most s c,
        filled_length facts_most s c,
      )

  weight_t : (i : ℕ) → i < rows f → weight_word t i ≡ other_weight h (weight_word f i)
  weight_t i row =
      rw pool_t
      (at (weight_at f i) (weight_there i row) ∙
      simp (ne_eqb (weight_at f i) unit_at (λ e. omega (arith, unit_before_pool)), weight_place f i row, unit_same))

  in_other_unit_lem : EitherUnit f t
  in_other_unit_lem = record {
    seven_facts = seven_facts;
    same_length = length_t;
    unit_code = rw (unit_rewritten s good) (other_unit_code h);
    same_weight = λ i row. rw (unit_t, weight_t i row, unit_same) (same_in_hundredths h (weight_word f i) (whole_percent i row));
    same_word = other_word;
  }

  -- ---- its answer and its lines

  answer_moved : SameLines s
  answer_moved =
      let either = either_unit f t in_other_unit_lem filled_words in
      let filled = filled_facts facts_most s (can_fill s good) in
      record {
        same_reply = λ room. either.same_reply room ∙ filled.same_reply room;
        same_results = λ old. either.same_results old ∙ filled.same_results old;
      }

  totals_moved : (b : ℕ) → block_sums t b ≡ block_sums s b
  totals_moved b =
      let c = can_fill s good in
      same_blocks_in_unit f t in_other_unit_lem filled_words b ∙
      reweighed_blocks s f (same_rows facts_most s c) (λ i k row other column. same_row_word facts_most s c i k)
      (λ i row. same_weight s f i i unit_same (same_row_word facts_most s c i 2)) b

  -- ---- and back

  words_t : words_verdict t ≡ Sound
  words_t = accepted_words t (good_sheet_words t (good_in_unit f t in_other_unit_lem filled_words))

  whole_t : weights_verdict t ≡ Sound
  whole_t =
      all_whole_sound t
      (λ fine i row. rw (weight_t i (omega (arith, rows_t))) (hundred h (weight_word f i) (sym unit_t ∙ fine)))

  filled_t : all_facts t ≡ t
  filled_t = rw (← first_rewritten s good) (filled_already t (omega (arith, rewritten_length_lem s good, fact_there s 0 good (omega arith))))

  word_back : (p : ℕ) → p < length f → rewritten_word t p (word t p) ≡ word f p
  word_back p l = by_place (eqb p unit_at) refl (is_weight_place f p) refl
    where
      same_place : is_weight_place t p ≡ is_weight_place f p
      same_place = rw (pool_t, tranches_t)

      by_place : (unit : Bool) → eqb p unit_at ≡ unit → (weight : Bool) → is_weight_place f p ≡ weight → rewritten_word t p (word t p) ≡ word f p
      by_place true is weight _ =
          rw (eqb-true p unit_at is) (rw unit_t (unit_back h (word f unit_at) unit_word.0 unit_word.1))
      by_place false other true is =
          let w = weight_of f p is in
          simp (other, same_place, is, unit_t, at p l, unit_same)
          (rw w.place (there_and_back h (weight_word f w.row) (whole_percent w.row w.among)))
      by_place false other false none = simp (other, same_place, none, at p l)

  back : rewritten t ≡ f
  unfolding rewritten
  back =
      rw filled_t
      (ext_get_or 0 (in_other_unit t) f (length_each (rewritten_word t) 0 t ∙ length_t)
      (λ p l.
      let among : p < length f = omega (arith, length_each (rewritten_word t) 0 t, length_t) in
      other_unit_at t p (omega (arith, length_t)) ∙ word_back p among))

-- ---- the laws, of every sheet that is converted

module _ (s : List ℕ) (room : ℕ) (e : conversion_verdict s room ≡ Sound) where
  words_of : words_verdict s ≡ Sound
  words_of = accepted_words s (converted_means s room e).words

  whole_of : weights_verdict s ≡ Sound
  whole_of = all_whole_sound s (converted_means s room e).all_whole

  -- "gives the same lines for it"
  pub same_lines : SameLines s
  same_lines = answer_moved s words_of whole_of

  -- and the same sums, of every block
  pub same_totals : (b : ℕ) → block_sums (rewritten s) b ≡ block_sums s b
  same_totals = totals_moved s words_of whole_of

  -- "its answer counts the words written"
  pub count_is : length (rewritten s) ≡ rewritten_length s
  count_is = rewritten_length_lem s (needed_sound s words_of)

  -- and back
  pub converts_back : ConvertsBack s room
  unfolding conversion_verdict
  converts_back =
      let again : length (rewritten (rewritten s)) ≤ room =
      rw (back s words_of whole_of) (omega (arith, length_t s words_of whole_of, count_is, (converted_means s room e).enough)) in
      record {
        not_refused = simp (words_t s words_of whole_of, whole_t s words_of whole_of, le-ltb room (length (rewritten (rewritten s))) again);
        filled_sheet = back s words_of whole_of;
      }
