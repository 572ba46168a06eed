-- Laws of the file form: the lengths of words and bytes, stored words load back, a file over the limit has a bad length however much of it past the
-- limit is read, and the words that a load leaves. No axioms.
use mathlib.Core.Bool.{true, false, and-false}
use mathlib.Core.List.{List, [], ◌∷◌, ◌++◌}
use mathlib.Core.Logic.{⊎_elim}
use mathlib.Core.Path.{◌≡◌, refl, ap, ◌∙◌}
use Prim.Native.Nat.{ℕ, zero, suc, ◌+◌, ◌*◌, ◌/◌, ◌%◌, ◌^◌, ◌≤◌, ◌<◌}
use native.Mathlib.Nat.{eq-or-lt_of_le, le_of_suc-le-suc, not-suc-le-zero, pow-suc}
use native.Mathlib.Omega.{arith}
use borrow.Author.Tests.{le-leb, lt-leb, eq-eqb}
use lib.Dec.{eqb}
use lib.ListN.{length, take, drop, get_or, length-append, get_or-append}
use lib.Seq.{take_at, drop_at, drop-drop, get_or_at, length-take-le, ext_get_or}
use Rattle.limits.specs.SheetSize.{word_limit, byte_limit}
use Rattle.files.specs.FileForm.{good_length, lowest_first, word_at, words_to, file_words, words_after, bytes_of, file_bytes, bytes_fit, bytes_after}

-- ---- lengths

pub length_words_to : (file : List ℕ) (n : ℕ) → length (words_to file n) ≡ n
unfolding words_to
length_words_to file zero = refl
length_words_to file (suc n) = omega (arith, length-append (words_to file n) (word_at file n ∷ []), length_words_to file n)

pub length_bytes_of : (n w : ℕ) → length (bytes_of n w) ≡ n
unfolding bytes_of
length_bytes_of zero w = refl
length_bytes_of (suc n) w = ap suc (length_bytes_of n (w / 256))

pub length_file_bytes : (ws : List ℕ) → length (file_bytes ws) ≡ 8 * length ws
unfolding file_bytes
length_file_bytes [] = refl
length_file_bytes (w ∷ ws) =
    omega (arith, length-append (bytes_of 8 w) (file_bytes ws), length_bytes_of 8 w, length_file_bytes ws)

-- ---- good and bad lengths

pub good_file : (file : List ℕ) → length file % 8 ≡ 0 → length file ≤ byte_limit → good_length file ≡ true
good_file file whole within = rw (eq-eqb (length file % 8) 0 whole, le-leb (length file) byte_limit within)

pub overlong_file : (file : List ℕ) → byte_limit < length file → good_length file ≡ false
overlong_file file over = rw (lt-leb (length file) byte_limit over) (and-false (eqb (length file % 8) 0))

pub overlong : (file : List ℕ) (n : ℕ) → byte_limit < n → n ≤ length file → good_length (take n file) ≡ false
overlong file n over within = overlong_file (take n file) (omega (arith, length-take-le n file within))

-- ---- what a load and a store leave

pub load_accepts : (file old : List ℕ) → good_length file ≡ true → words_after file old ≡ file_words file ++ drop (length file / 8) old
unfolding words_after
load_accepts file old good = rw good

pub load_takes : (file old : List ℕ) → good_length file ≡ true → take (length file / 8) (words_after file old) ≡ file_words file
load_takes file old good =
    rw (load_accepts file old good)
    (take_at (file_words file) (drop (length file / 8) old) (length file / 8) (length_words_to file (length file / 8)))

-- the words of a file of good length fit the words lent for them
pub file_words_fit :
    (file old : List ℕ) {after : List ℕ} → length old ≡ word_limit → good_length file ≡ true → after ≡ words_after file old → length file / 8 ≤ length after
file_words_fit file old room good is =
    omega (
      arith,
      ap length (is ∙ load_accepts file old good),
      length-append (file_words file) (drop (length file / 8) old),
      length_words_to file (length file / 8),
    )

pub store_refuses : (ws old : List ℕ) → bytes_fit ws old ≡ false → bytes_after ws old ≡ old
unfolding bytes_after
store_refuses ws old bad = rw bad

pub store_accepts : (ws old : List ℕ) → bytes_fit ws old ≡ true → bytes_after ws old ≡ file_bytes ws ++ drop (8 * length ws) old
unfolding bytes_after
store_accepts ws old good = rw good

-- ---- what is stored loads back

-- word i of the first n
pub word_of_words : (file : List ℕ) (n i : ℕ) → i < n → get_or (words_to file n) i 0 ≡ word_at file i
unfolding words_to
word_of_words file zero i l = absurd (not-suc-le-zero l)
word_of_words file (suc n) i l =
    ⊎_elim
    (λ e. rw e (get_or_at (words_to file n) (word_at file n) [] 0 n (length_words_to file n)))
    (λ below.
    get_or-append (words_to file n) (word_at file n ∷ []) 0 i (omega (arith, length_words_to file n)) ∙ word_of_words file n i below)
    (eq-or-lt_of_le (le_of_suc-le-suc l))

-- n bytes hold every number below 256 to the n
number_of_bytes : (n w : ℕ) → w < 256 ^ n → lowest_first (bytes_of n w) ≡ w
unfolding lowest_first bytes_of
number_of_bytes zero w small = omega arith
number_of_bytes (suc n) w small =
    omega (arith, number_of_bytes n (w / 256) (omega (arith, pow-suc 256 n)))

-- the bytes of the words after the first
bytes_after_lem : (w : ℕ) (ws : List ℕ) (i : ℕ) → drop (8 * suc i) (file_bytes (w ∷ ws)) ≡ drop (8 * i) (file_bytes ws)
unfolding file_bytes
bytes_after_lem w ws i =
    let past : 8 * suc i ≡ 8 + 8 * i = omega arith in
    rw (past, ← drop-drop (8 * i) 8, drop_at (bytes_of 8 w) (file_bytes ws) 8 (length_bytes_of 8 w))

word_of_bytes : (ws : List ℕ) (i : ℕ) → i < length ws → get_or ws i 0 < 2 ^ 64 → word_at (file_bytes ws) i ≡ get_or ws i 0
unfolding file_bytes
word_of_bytes [] i l small = absurd (not-suc-le-zero l)
word_of_bytes (w ∷ ws) zero l small =
    ap lowest_first (take_at (bytes_of 8 w) (file_bytes ws) 8 (length_bytes_of 8 w)) ∙ number_of_bytes 8 w small
word_of_bytes (w ∷ ws) (suc i) l small =
    ap (λ (bs : List ℕ). lowest_first (take 8 bs)) (bytes_after_lem w ws i) ∙ word_of_bytes ws i (le_of_suc-le-suc l) small

pub words_of_bytes : (ws : List ℕ) → ((i : ℕ) → i < length ws → get_or ws i 0 < 2 ^ 64) → file_words (file_bytes ws) ≡ ws
words_of_bytes ws small =
    let file = file_bytes ws in
    let count : length file / 8 ≡ length ws = omega (arith, length_file_bytes ws) in
    rw count
    (ext_get_or 0 (words_to file (length ws)) ws (length_words_to file (length ws))
    (λ i l.
    let within : i < length ws = omega (arith, length_words_to file (length ws)) in
    word_of_words file (length ws) i within ∙ word_of_bytes ws i within (small i within)))
