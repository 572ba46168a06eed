-- What a text makes whose tokens are all words: too many, or bytes, and the bytes that are stored then. No axioms.
use mathlib.Core.List.{List, [], append-nil}
use mathlib.Core.Path.{◌≡◌, refl, ◌∙◌, sym}
use Prim.Native.Nat.{ℕ, ◌*◌, ◌≤◌, ◌<◌, min}
use native.Mathlib.Omega.{arith}
use borrow.Author.Tests.{le-leb, lt-leb}
use lib.ListN.{length, take}
use lib.Seq.{length-take-le}
use Rattle.std.specs.Prelude.{Result, Ok, Err}
use Rattle.limits.specs.SheetSize.{byte_limit}
use Rattle.files.specs.FileForm.{bytes_after}
use Rattle.files.proofs.FileLaws.{store_accepts}
use Rattle.sheet_text.specs.SheetText.{tokens, words, made_from, made_of, bytes_for}
use Rattle.sheet_text.specs.Scanning.{Onward}
use Rattle.sheet_text.specs.declared.TextFault.{TextFault}
use Rattle.sheet_text.specs.declared.TextFault.TheVariants.{TooMany}

-- what a text makes and what stands in the lent bytes then
pub record Answered (text old new : List ℕ) (made : Result ℕ TextFault) : Type 0 where
  pub value : made ≡ made_of text (length old)
  pub bytes_after : new ≡ bytes_for text old (made_of text (length old))

answered :
    (text old new : List ℕ) (made : Result ℕ TextFault) → made_of text (length old) ≡ made →
    new ≡ bytes_for text old made → Answered text old new made
answered text old new made is written = record { value = sym is; bytes_after = rw is written }

module _ (text old stored : List ℕ) (n : ℕ) (read : Onward (tokens text) n stored []) where
  pub too_many : min (length old) byte_limit < 8 * n → Answered text old old (Err (TooMany n))
  unfolding made_from
  too_many over =
      answered text old old _
      (read.made (length old) ∙ simp (lt-leb (8 * n) (min (length old) byte_limit) over)) refl

  -- the words stored are the text's
  pub makes_bytes :
      8 * n ≤ min (length old) byte_limit → n ≤ length stored →
      Answered text old (bytes_after (take n stored) old) (Ok (8 * n))
  unfolding made_from words
  makes_bytes fits within =
      let size = length-take-le n stored within in
      let same : take n stored ≡ words (tokens text) = sym (read.kept within ∙ append-nil (take n stored)) in
      let room = le-leb (8 * length (take n stored)) (length old) (omega (arith, size)) in
      answered text old _ _
      (read.made (length old) ∙ simp (le-leb (8 * n) (min (length old) byte_limit) fits))
      (store_accepts (take n stored) old room ∙ rw (size, same))
