-- 02, S-5: "Kind 2 below 950,000 goes on as an SA pool."; "A re-securitisation keeps SEC-SA."; without due diligence the fallback and 01's charge stay: a sheet with an IRB
-- section to which approach 3 does not apply, and the same sheet of an SA pool, without the section. That both get the same answer and lines, where the words of the first are
-- good, is `as_sa_pool` (proofs/SaPool.antt).
use Rattle.std.specs.Prelude.{false, List, ◌≡◌, ℕ, ◌<◌, length}
use Rattle.judgement.specs.DealSheet.{word, pool_kind, irb_at}
use Rattle.deal.specs.Lines.{terms}

-- s' is s but for the pool's kind, which is 0, and for all that stands past the tranches, which is not there
pub record AsSaPool (s s' : List ℕ) : Type 0 where
  pub not_irba : (terms s).irba ≡ false
  pub sa : pool_kind s' ≡ 0
  pub no_section : length s' ≡ irb_at s
  pub same_word : (p : ℕ) → (p ≡ 1 → ⊥) → p < irb_at s → word s' p ≡ word s p
