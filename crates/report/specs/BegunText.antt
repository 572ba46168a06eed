-- What the private contracts say of a text that is being written into a lent buffer. No reader has to trust this file:
-- what the public functions promise names the whole text.
use Rattle.std.specs.Prelude.{List, ◌++◌, ℕ, ◌-◌, length}

-- the bytes written so far, and for how many more there is room
pub record Begun : Type 0 where
  pub bytes : List ℕ
  pub room : ℕ

-- the text with a piece more
abbrev pub behind : Begun → List ℕ → Begun
behind t piece = record { bytes = t.bytes ++ piece; room = t.room - length piece }
