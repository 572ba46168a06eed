-- 02, S-10: "Keep an opened pool: a whole sheet with the seven sums of S-7. A sheet that gets a refusal before 14 returns it and is not opened; 13 and 14 are not judged here."
use Rattle.std.specs.Prelude.{List, ◌≡◌, ℕ}
use Rattle.charge.specs.declared.Sums.{Sums}
use Rattle.judgement.specs.DealSheet.{layout}
use Rattle.judgement.specs.Outcome.{Outcome, outcome}
use Rattle.judgement.specs.Refusals.{words_verdict}
use Rattle.judgement.specs.declared.Layout.{Layout}
use Rattle.judgement.specs.Verdicts.{Sound}
use Rattle.pool.specs.PoolSums.{pool_sums}

-- ---- an opened pool: the sheet's words are good, and the layout and the sums are the sheet's

pub record OpenPool (s : List ℕ) (l : Layout) (q : Sums) : Type 0 where
  pub sound : words_verdict s ≡ Sound
  pub is_layout : l ≡ layout s
  pub are_sums : q ≡ pool_sums s

-- what a call on an opened pool may require: "a pool whose sheet would open and whose sums are those of its rows"
abbrev pub OpenedPool : List ℕ → Sums → Type 0
OpenedPool s q = OpenPool s (layout s) q

-- ---- what a sheet is opened to, in 01's numbers: the refusal that its words get, which comes before 14, or its pool's seven sums

-- the numbers that a sheet is due
unfoldable pub opened_numbers : List ℕ → Outcome Sums
opened_numbers s = outcome (pool_sums s) (words_verdict s)
