-- An opened pool whose sums are words: what the calls on it require, and what an amendment makes of it. No axioms.
use mathlib.Core.List.{List}
use mathlib.Core.Path.{◌≡◌, sym, ap, ◌∙◌, subst}
use Prim.Native.Nat.{ℕ}
use Rattle.std.specs.Prelude.{Result, Ok, Err}
use Rattle.charge.specs.declared.Sums.{Sums}
use Rattle.judgement.specs.Outcome.{numbers_of}
use Rattle.judgement.specs.declared.Refusal.{Refusal}
use Rattle.pool.specs.BlockSums.{sums_of}
use Rattle.pool.specs.SummedPool.{OpenedPool}
use Rattle.pool.proofs.SummedPoolLaw.{opened_by_words}
use Rattle.amendment.specs.Amendment.{AmendedPool}
use Rattle.amendment.specs.AmendmentAnswer.{verdict_on, sums_after as sums_amended}
use Rattle.tranche_weights.specs.OpenedReply.{RefusalReply, reply_for, sums_after, AmendedWords}

-- the same sums, however they are had
pub same_opened : (s : List ℕ) {p q : Sums} → p ≡ q → OpenedPool s p → OpenedPool s q
same_opened s = subst (OpenedPool s)

-- the words of the sums are those of the pool that the amendment makes, and as they were where it is refused
pub amended_words :
    (s m s' old w : List ℕ) (answer : Result Sums Refusal) {reply : RefusalReply} →
    AmendedPool s m s' (verdict_on answer) (sums_amended (sums_of old) answer) → reply ≡ reply_for (numbers_of answer) →
    w ≡ sums_after (numbers_of answer) old → AmendedWords s m reply s' w
amended_words s m s' old w (Ok q) amended told written = record {
  reply_is = told ∙ ap reply_for amended.answer_is;
  sheet_is = amended.sheet_is;
  still_open = opened_by_words s' w written amended.still_open;
}
amended_words s m s' old w (Err r) amended told written = record {
  reply_is = told ∙ ap reply_for amended.answer_is;
  sheet_is = amended.sheet_is;
  still_open = same_opened s' (ap sums_of (sym written)) amended.still_open;
}
