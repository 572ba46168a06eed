-- Each case of what a block came to, with the words of its sums, is the reply that is due. No axioms.
use mathlib.Core.List.{List}
use mathlib.Core.Path.{◌≡◌, refl, ap}
use Prim.Native.Nat.{ℕ}
use Rattle.std.specs.Prelude.{Result, Ok, Err}
use Rattle.charge.specs.declared.Sums.{Sums}
use Rattle.judgement.specs.Outcome.{numbers_of}
use Rattle.judgement.specs.Verdicts.{refusal_of}
use Rattle.judgement.specs.declared.Refusal.{Refusal}
use Rattle.pool.specs.BlockSums.{sum_words}
use Rattle.pool.specs.SummedBlock.{sums_read}
use Rattle.tranche_weights.specs.BlockReply.{block_reply, reply_for}
use Rattle.tranche_weights.specs.OpenedReply.{RefusalReply, refusal_reply, reply_for as refusal_reply_for}

module _ (b : Result Sums Refusal) (words : List ℕ) (are : words ≡ sum_words (sums_read (numbers_of b))) where
  pub summed_reply : (q : Sums) → b ≡ Ok q → block_reply 0 0 words ≡ reply_for (numbers_of b)
  summed_reply q is = rw (are, is) refl

  pub refused_reply :
      (r : Refusal) → b ≡ Err r →
      block_reply (refusal_of r).number r.place words ≡ reply_for (numbers_of b)
  refused_reply r is = rw (are, is) refl

-- so it is with the number and the place that a refusal's reply has
pub block_replied :
    (b : Result Sums Refusal) (n p : ℕ) (words : List ℕ) → refusal_reply n p ≡ refusal_reply_for (numbers_of b) →
    words ≡ sum_words (sums_read (numbers_of b)) → block_reply n p words ≡ reply_for (numbers_of b)
block_replied (Ok q) n p words replied are =
    let number : n ≡ 0 = ap (λ (x : RefusalReply). x.number) replied in
    let place : p ≡ 0 = ap (λ (x : RefusalReply). x.place) replied in
    rw (number, place) (summed_reply (Ok q) words are q refl)
block_replied (Err r) n p words replied are =
    let number : n ≡ (refusal_of r).number = ap (λ (x : RefusalReply). x.number) replied in
    let place : p ≡ r.place = ap (λ (x : RefusalReply). x.place) replied in
    rw (number, place) (refused_reply (Err r) words are r refl)
