-- The end of a token: a number is the next word; any other token refuses the text. No axioms.
use mathlib.Core.List.{List, [], ◌∷◌, ◌++◌}
use mathlib.Core.Path.{◌≡◌, refl, ◌∙◌, sym, ap}
use Prim.Native.Nat.{ℕ, suc, ◌+◌, ◌≤◌, ◌<◌}
use native.Mathlib.Numerals.{add-one}
use native.Mathlib.Omega.{arith}
use lib.ListN.{length, take, set, length-set}
use lib.Seq.{take-suc-set, append_snoc}
use Rattle.std.specs.Prelude.{Result, Err}
use Rattle.sheet_text.specs.SheetText.{Token, ended, value, words, span_of, made_from}
use Rattle.sheet_text.specs.Scanning.{span_at, Sums, Onward, Refuses}
use Rattle.sheet_text.specs.declared.TextFault.{TextFault}
use Rattle.sheet_text.specs.declared.tokens.Numeral.{Numeral}
use Rattle.sheet_text.specs.declared.tokens.Numeral.TheVariants.{Number}
use Rattle.sheet_text.specs.declared.tokens.Scan.{Scan}
use Rattle.sheet_text.proofs.NumeralLaws.{made_next, made_next_lem, number_value}

-- a good token's word is stored behind those before it
word_kept :
    (all ahead : List Token) (n : ℕ) (stored : List ℕ) (t : Token) (v : ℕ) → value t ≡ v →
    (n ≤ length stored → words all ≡ take n stored ++ words (t ∷ ahead)) →
    suc n ≤ length (set stored n v) → words all ≡ take (suc n) (set stored n v) ++ words ahead
unfolding words
word_kept all ahead n stored t v is kept room =
    let h : n < length stored = omega (arith, length-set stored n v) in
    kept (omega arith) ∙
    ap (λ (w : ℕ). take n stored ++ w ∷ words ahead) is ∙
    sym (append_snoc (take n stored) v (words ahead)) ∙
    ap (λ (l : List ℕ). l ++ words ahead) (sym (take-suc-set stored n v h))

module _ {all : List Token} {n : ℕ} {stored : List ℕ} (s : Scan) (ahead : List Token) where
  pub word_ended :
      (begun : List ℕ) (v : ℕ) → Sums s begun → (s.size ≡ 0 → ⊥) → s.numeral ≡ Number v →
      Onward all n stored (ended (suc s.newlines) s.at begun ++ ahead) → Onward all (n + 1) (set stored n v) ahead
  word_ended [] v sums some is onward = absurd (some sums.size)
  word_ended (b ∷ bs) v sums some is onward =
      let t : Token = record { line = suc s.newlines; end = s.at; characters = b ∷ bs } in
      let number = sym sums.numeral ∙ is in
      rw add-one
      (record {
        made = λ room.
            onward.made room ∙
            made_next_lem room n t ahead ∙
            ap (λ (k : Numeral). made_next k (span_of t) (made_from room (suc n) ahead)) number;
        kept = word_kept all ahead n stored t v (number_value (b ∷ bs) v number) onward.kept;
      })

  pub token_refused :
      (begun : List ℕ) (k : Numeral) (fault : TextFault) → Sums s begun → (s.size ≡ 0 → ⊥) → s.numeral ≡ k →
      ((later : Result ℕ TextFault) → made_next k (span_at s) later ≡ Err fault) →
      Onward all n stored (ended (suc s.newlines) s.at begun ++ ahead) → Refuses all fault
  token_refused [] k fault sums some is refuses onward = absurd (some sums.size)
  token_refused (b ∷ bs) k fault sums some is refuses onward =
      let t : Token = record { line = suc s.newlines; end = s.at; characters = b ∷ bs } in
      record {
        made = λ room.
            onward.made room ∙
            made_next_lem room n t ahead ∙
            rw (← sums.numeral, is, ← sums.size) (refuses (made_from room (suc n) ahead));
        unwritten = λ text old. refl;
      }
