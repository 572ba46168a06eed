-- The byte limit worked out from its parts is 01's number, raised by 8 for each word that a sheet has gained since, the room for results is that of seven words per tranche, the blocks hold
-- the rows of the largest pool, and no sheet is so long that its places come near `place_limit`. No axioms.
use mathlib.Core.Path.{◌≡◌, refl}
use Prim.Native.Nat.{◌*◌, ◌≤◌}
use native.Mathlib.Omega.{arith}
use Rattle.limits.specs.SheetSize.{word_limit, byte_limit, result_room, rows_most, block_size, blocks_most, place_limit}

-- "over 33,848 bytes" where every sheet has four facts and three sections; 8 more each for the fifth, the sixth and the seventh fact, for the fourth section's count and for its six words
pub byte_limit_is : byte_limit ≡ 33928
byte_limit_is = refl

-- 02, S-6: "14 now reads seven words per tranche": 7 for each of 32 tranches
pub result_room_is : result_room ≡ 224
result_room_is = refl

-- 02, S-7: "per block of 50 rows"; 01: "Array by value of 20 block subtotals"; "Pool, count 1 to 1,000."
pub rows_in_blocks : block_size * blocks_most ≡ rows_most
rows_in_blocks = refl

pub words_below_place_limit : word_limit ≤ place_limit
words_below_place_limit = omega arith
