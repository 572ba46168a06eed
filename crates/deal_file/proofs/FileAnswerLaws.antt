-- The answer to a file, by its length and by the words that are loaded from it; and that its four numbers settle it. No axioms.
use mathlib.Core.Bool.{Bool, true, false, true≢false}
use mathlib.Core.List.{List}
use mathlib.Core.Path.{◌≡◌, refl, sym, ap, ◌∙◌}
use Prim.Native.Nat.{ℕ, ◌/◌}
use native.Mathlib.Omega.{arith}
use lib.ListN.{length, take}
use Rattle.std.specs.Prelude.{Result, Ok, Err}
use Rattle.faults.specs.declared.Reason.TheVariants.{FileLength}
use Rattle.faults.proofs.ReasonLaws.{same_reason}
use Rattle.judgement.specs.declared.Refusal.{Refusal}
use Rattle.files.specs.FileForm.{good_length, file_words, words_after}
use Rattle.files.proofs.FileLaws.{load_takes}
use Rattle.deal.specs.DemandThree.{KeepsDemandThree, KeepsSeventhWord}
use Rattle.deal.specs.Results.{Reply, reply_of, reply_to, results_after}
use Rattle.deal.specs.declared.Weighed.{Weighed}
use Rattle.deal.proofs.AnswerLaw.{answer_settled}
use Rattle.deal_file.specs.FileAnswer.{file_reply, file_results, FileKeepsDemandThree, FileKeepsSeventhWord}

-- ---- by the length of the file

abbrev pub bad_length : Result Weighed Refusal
bad_length = Err (record { reason = FileLength; place = 0 })

module _ (file : List ℕ) where
  pub reply_of_bad_length : (room : ℕ) → good_length file ≡ false → file_reply file room ≡ reply_of bad_length
  unfolding file_reply
  reply_of_bad_length room bad = rw bad

  pub reply_of_words : (room : ℕ) → good_length file ≡ true → file_reply file room ≡ reply_to (file_words file) room
  unfolding file_reply
  reply_of_words room good = rw good

  results_of_bad_length : (old : List ℕ) → good_length file ≡ false → file_results file old ≡ old
  unfolding file_results
  results_of_bad_length old bad = rw bad

  pub results_of_words : (old : List ℕ) → good_length file ≡ true → file_results file old ≡ results_after (file_words file) old
  unfolding file_results
  results_of_words old good = rw good

  -- an accepted file has a good length
  pub accepted_length : (room : ℕ) → (file_reply file room).number ≡ 0 → good_length file ≡ true
  accepted_length room zero_number = by_length (good_length file) refl
    where
      by_length : (b : Bool) → good_length file ≡ b → b ≡ true
      by_length true e = refl
      by_length false e = absurd (omega (arith, zero_number, ap (λ (a : Reply). a.number) (reply_of_bad_length room e)))

-- ---- what `weigh_file` does

-- a bad length is refused and leaves the results
pub bad_length_refused :
    (file old : List ℕ) {a : Reply} → good_length file ≡ false → a ≡ reply_of bad_length →
    (a ≡ file_reply file (length old)) × ((old ≡ file_results file old) × (FileKeepsDemandThree file (length old) old × FileKeepsSeventhWord file (length old) old))
bad_length_refused file old bad is = (
  is ∙ sym (reply_of_bad_length file (length old) bad),
  (sym (results_of_bad_length file old bad), (λ good. absurd (true≢false (sym good ∙ bad)), λ good. absurd (true≢false (sym good ∙ bad)))),
)

-- else the answer is that for the words that were loaded
pub words_weighed :
    (file lent old new : List ℕ) {loaded : List ℕ} {a : Reply} → good_length file ≡ true → loaded ≡ words_after file lent →
    (a ≡ reply_to (take (length file / 8) loaded) (length old)) ×
    ((new ≡ results_after (take (length file / 8) loaded) old) ×
    (KeepsDemandThree (take (length file / 8) loaded) (length old) new × KeepsSeventhWord (take (length file / 8) loaded) (length old) new)) →
    (a ≡ file_reply file (length old)) × ((new ≡ file_results file old) × (FileKeepsDemandThree file (length old) new × FileKeepsSeventhWord file (length old) new))
words_weighed file lent old new good is kept =
    let words = ap (take (length file / 8)) is ∙ load_takes file lent good in
    let weighed = rw words at kept in (
      weighed.0 ∙ sym (reply_of_words file (length old) good),
      (weighed.1.0 ∙ sym (results_of_words file old good), (λ _. weighed.1.1.0, λ _. weighed.1.1.1)),
    )

-- ---- the four numbers settle the answer

bad_length_answer : (a : Result Weighed Refusal) → reply_of a ≡ reply_of bad_length → a ≡ bad_length
bad_length_answer (Ok w) same = absurd (omega (arith, ap (λ (x : Reply). x.number) same))
bad_length_answer (Err r) same =
    let reason = same_reason r.reason FileLength (ap (λ (x : Reply). x.number) same) in
    let place = ap (λ (x : Reply). x.place) same in
    ap Err (rw (reason, place))

pub file_answer_settled : (file : List ℕ) (room : ℕ) (a b : Result Weighed Refusal) → reply_of a ≡ file_reply file room → reply_of b ≡ file_reply file room → a ≡ b
file_answer_settled file room a b same same' = by_length (good_length file) refl
  where
    by_length : (t : Bool) → good_length file ≡ t → a ≡ b
    by_length true e =
        let words = reply_of_words file room e in
        answer_settled (file_words file) room a b (same ∙ words) (same' ∙ words)
    by_length false e =
        let bad = reply_of_bad_length file room e in
        bad_length_answer a (same ∙ bad) ∙ sym (bad_length_answer b (same' ∙ bad))
