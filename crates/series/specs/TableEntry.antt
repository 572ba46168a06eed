-- How an entry of a table of decays is computed. No reader has to trust this file: the law `whole_part` (proofs/Entries.antt) says that those of the decay
-- table keep `DecayEntry` of DecayTable.antt.
use Rattle.std.specs.Prelude.{ℕ, ◌*◌, ◌^◌, ◌/◌}
use Rattle.series.specs.Fraction.{over}
use Rattle.series.specs.Series.{low}

-- the whole part of 2^32 / Low(43) of n / d: an entry of the decay table (d = 16), of whole exponents (d = 1), of 1024ths (d = 1024)
unfoldable pub entry : ℕ → ℕ → ℕ
entry n d = 2 ^ 32 * (low (over n d) 43).bottom / (low (over n d) 43).top
