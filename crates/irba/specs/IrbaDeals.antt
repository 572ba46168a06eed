-- 02, S-5, "SEC-IRBA" (d374 paragraphs 43 and 47): the deals to which approach 3 applies.
use Rattle.std.specs.Prelude.{Bool, not, ◌&&◌, ◌||◌, ℕ, leb, eqb}

-- "Kind 2 below 950,000 goes on as an SA pool.": the kinds of pool are 0 SA, 1 IRB, 2 mixed, and the share is that of exposure with an IRB charge, in millionths
abbrev pub covers_pool : ℕ → ℕ → Bool
covers_pool kind share = eqb kind 1 || (eqb kind 2 && leb 950000 share)

-- "Otherwise, given due diligence and an ordinary deal, approach 3"; "A re-securitisation keeps SEC-SA."
abbrev pub irba_applies : Bool → Bool → ℕ → ℕ → Bool
irba_applies diligence resecuritised kind share = diligence && not resecuritised && covers_pool kind share
