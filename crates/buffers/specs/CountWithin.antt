-- A number of items at a buffer's start.
use Rattle.std.specs.Prelude.{cond, List, ◌≡◌, ℕ, ◌≤◌, leb, length, take}

-- n where the buffer has so many items, else 0
abbrev pub count_within : {A : Type 0} → ℕ → List A → ℕ
count_within n buffer = cond (leb n (length buffer)) n 0

-- the buffer has n items: of bytes this is `IsPrefixLen` of the kit's `io`, said here so that this crate reaches no
-- function in C. The second part follows from the first: with both, a caller's `&buf[..n]` needs no proof file
abbrev pub HasBytes : {A : Type 0} → ℕ → List A → Type 0
HasBytes n buffer = (n ≤ length buffer) × (n ≡ length (take n buffer))
