-- Words in decimal, as the report prints them and as a desk writes them. A text is the list of its bytes, which are codes of ASCII.
use Rattle.std.specs.Prelude.{Bool, true, cond, ◌&&◌, List, [], ◌∷◌, ◌++◌, ℕ, zero, suc, ◌+◌, ◌*◌, ◌-◌, ◌/◌, ◌%◌, leb, ltb}

abbrev pub newline : ℕ
newline = 10

abbrev pub space : ℕ
space = 32

-- the digits 0 to 9 have the codes 48 to 57
abbrev pub digit : ℕ → Bool
digit b = leb 48 b && leb b 57

unfoldable pub all_digits : List ℕ → Bool
all_digits [] = true
all_digits (b ∷ bs) = digit b && all_digits bs

-- the digits of n, the highest first and no 0 before the first, where n has at most k digits
unfoldable pub digits : ℕ → ℕ → List ℕ
digits zero n = []
digits (suc k) n = cond (ltb n 10) [] (digits k (n / 10)) ++ (48 + n % 10) ∷ []

-- the most digits of a number of 64 bits
abbrev pub digits_most : ℕ
digits_most = 20

-- a word in decimal
unfoldable pub decimal : ℕ → List ℕ
decimal n = digits digits_most n

-- the number that digits make after a number v
unfoldable pub value_from : ℕ → List ℕ → ℕ
value_from v [] = v
value_from v (d ∷ ds) = value_from (10 * v + (d - 48)) ds
