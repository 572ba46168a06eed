-- 02, S-1: "a sheet with four facts counts as 0", S-3: "0 or absent means months as before.", and S-9: "Shorter fact lists are filled with zeros first.": a sheet whose list of facts is filled with zeros, and where its words
-- stand then. That it gets the same answer and lines is `filled_facts` (proofs/FilledFacts.antt of `deal`).
use Rattle.std.specs.Prelude.{cond, List, ◌∷◌, ◌++◌, ℕ, ◌+◌, ◌-◌, ◌≤◌, ltb, length, take, drop, replicate}
use Rattle.limits.specs.SheetSize.{facts_least, facts_most}
use Rattle.judgement.specs.DealSheet.{word, pool_at}

-- a sheet whose facts are all there: their count is at least the fewest and at most n, and n is at most the most that a sheet may have
pub record CanFill (n : ℕ) (s : List ℕ) : Type 0 where
  pub least : facts_least ≤ word s 0
  pub most : word s 0 ≤ n
  pub limit : n ≤ facts_most
  pub there : pool_at s ≤ length s

-- the sheet with its list of facts filled with zeros up to n facts
unfoldable pub filled : ℕ → List ℕ → List ℕ
filled n s = n ∷ (take (word s 0) (drop 1 s) ++ (replicate (n - word s 0) 0 ++ drop (pool_at s) s))

-- the place in the filled sheet of what stands at place p: the facts keep their places, and every later place, the sheet's end too, is higher by the number of zeros
abbrev pub moved : ℕ → List ℕ → ℕ → ℕ
moved n s p = cond (ltb p (pool_at s)) p (p + (n - word s 0))
