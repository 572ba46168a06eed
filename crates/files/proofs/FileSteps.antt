-- A word of a file from its eight bytes, and what a turn of each loop does to the lent words and bytes. No axioms.
use mathlib.Core.List.{List, [], ◌∷◌, ◌++◌}
use mathlib.Core.Path.{◌≡◌, refl, ap, sym, ◌∙◌}
use Prim.Native.Nat.{ℕ, zero, suc, ◌+◌, ◌*◌, ◌/◌, ◌%◌, ◌^◌, ◌≤◌, ◌<◌}
use native.Mathlib.Nat.{le_of_suc-le-suc, not-suc-le-zero, div-div-eq-div-mul, pow-suc}
use native.Mathlib.Numerals.{add-one}
use native.Mathlib.Omega.{arith}
use lib.ListN.{length, take, drop, get_or, set}
use Rattle.std.proofs.Common.{length-drop, append_assoc}
use lib.Seq.{drop-cons, drop-drop, drop-length, length-take-le, set_at, append_snoc, sets, sets-eq, length-sets}
use borrow.Rule.Slice.PartMut.{put_mid}
use Rattle.std.specs.Int.{w64, from_le_bytes, to_le_bytes, byte_at, bytes_low_first}
use Rattle.std.specs.Simd.{first_chunks}
use Rattle.files.specs.FileForm.{lowest_first, word_at, words_to, bytes_of, file_bytes}
use Rattle.files.proofs.Pieces.{sets_sets}
use Rattle.files.proofs.FileLaws.{length_words_to, length_bytes_of, length_file_bytes}

-- ---- a word of a file

-- eight bytes as the kit's `from_le_bytes` weighs them
lowest_of_eight : (bs : List ℕ) → length bs ≡ 8 → from_le_bytes w64 bs ≡ lowest_first bs
unfolding lowest_first
lowest_of_eight (a ∷ b ∷ c ∷ d ∷ e ∷ f ∷ g ∷ h ∷ []) l = omega arith
lowest_of_eight [] l = absurd (omega arith)
lowest_of_eight (a ∷ []) l = absurd (omega arith)
lowest_of_eight (a ∷ b ∷ []) l = absurd (omega arith)
lowest_of_eight (a ∷ b ∷ c ∷ []) l = absurd (omega arith)
lowest_of_eight (a ∷ b ∷ c ∷ d ∷ []) l = absurd (omega arith)
lowest_of_eight (a ∷ b ∷ c ∷ d ∷ e ∷ []) l = absurd (omega arith)
lowest_of_eight (a ∷ b ∷ c ∷ d ∷ e ∷ f ∷ []) l = absurd (omega arith)
lowest_of_eight (a ∷ b ∷ c ∷ d ∷ e ∷ f ∷ g ∷ []) l = absurd (omega arith)
lowest_of_eight (a ∷ b ∷ c ∷ d ∷ e ∷ f ∷ g ∷ h ∷ x ∷ bs) l = absurd (omega arith)

-- chunk i of a file that is cut into chunks of eight bytes
chunk_is : (k i : ℕ) (file : List ℕ) (d : List ℕ) → i < k → get_or (first_chunks 8 k file) i d ≡ take 8 (drop (8 * i) file)
chunk_is zero i file d l = absurd (not-suc-le-zero l)
chunk_is (suc k) zero file d l = refl
chunk_is (suc k) (suc i) file d l =
    let past : 8 * suc i ≡ 8 + 8 * i = omega arith in
    rw past (chunk_is k i (drop 8 file) d (le_of_suc-le-suc l) ∙ ap (take 8) (drop-drop (8 * i) 8 file))

-- a chunk's number is a word of the file
pub word_read :
    (file : List ℕ) (i : ℕ) {chunks : List (List ℕ)} (d : List ℕ) {w : ℕ} → chunks ≡ first_chunks 8 (length file / 8) file →
    i < length file / 8 → w ≡ from_le_bytes w64 (get_or chunks i d) → w ≡ word_at file i
word_read file i {chunks} d cut within read =
    let chunk : get_or chunks i d ≡ take 8 (drop (8 * i) file) = rw cut (chunk_is (length file / 8) i file d within) in
    let whole : length (take 8 (drop (8 * i) file)) ≡ 8 = length-take-le 8 (drop (8 * i) file) (omega (arith, length-drop (8 * i) file)) in
    read ∙ ap (from_le_bytes w64) chunk ∙ lowest_of_eight _ whole

-- ---- the words of a file, one by one

pub word_loaded :
    (file old : List ℕ) (i : ℕ) {before : List ℕ} {w : ℕ} → i < length old → before ≡ words_to file i ++ drop i old → w ≡ word_at file i →
    set before i w ≡ words_to file (i + 1) ++ drop (i + 1) old
unfolding words_to
word_loaded file old i within was is =
    rw (was, is, add-one, drop-cons old i 0)
    (set_at (words_to file i) (get_or old i 0) (drop (suc i) old) (word_at file i) i (length_words_to file i) ∙
    sym (append_snoc (words_to file i) (word_at file i) (drop (suc i) old)))

-- ---- one word more is stored

-- the bytes of a word as the kit's `to_le_bytes` gives them
byte_is : (i w : ℕ) → byte_at i w ≡ w / 256 ^ i % 256
byte_is zero w = omega arith
byte_is (suc i) w = refl

bytes_given : (n i w : ℕ) → bytes_low_first i n w ≡ bytes_of n (w / 256 ^ i)
unfolding bytes_of
bytes_given zero i w = refl
bytes_given (suc n) i w =
    let next : w / 256 ^ suc i ≡ w / 256 ^ i / 256 = ap (λ (m : ℕ). w / m) (pow-suc 256 i) ∙ sym (div-div-eq-div-mul w (256 ^ i) 256) in
    rw (byte_is i w, ← next) (ap (λ (bs : List ℕ). w / 256 ^ i % 256 ∷ bs) (bytes_given n (suc i) w))

-- the eight bytes of a word that are copied over a part of others
pub eight_stored :
    (bytes : List ℕ) (at k w : ℕ) {new : List ℕ} → k ≡ 8 → at + 8 ≤ length bytes → new ≡ to_le_bytes w64 w →
    put_mid at k bytes new ≡ sets bytes at (bytes_of 8 w)
eight_stored bytes at k w size within copied =
    let whole : w / 256 ^ 0 ≡ w = omega arith in
    let is = copied ∙ bytes_given 8 0 w ∙ ap (bytes_of 8) whole in
    let eight = length_bytes_of 8 w in
    rw (is, size, sets-eq (bytes_of 8 w) bytes at (omega arith), eight)
    (sym (append_assoc (take at bytes) (bytes_of 8 w) (drop 8 (drop at bytes))) ∙
    ap (λ (rest : List ℕ). take at bytes ++ bytes_of 8 w ++ rest) (drop-drop 8 at bytes))

pub stored_length : (bytes : List ℕ) (at w : ℕ) {after : List ℕ} → after ≡ sets bytes at (bytes_of 8 w) → length after ≡ length bytes
stored_length bytes at w stored = ap length stored ∙ length-sets bytes at (bytes_of 8 w)

pub word_stored :
    (ws bytes : List ℕ) (i at : ℕ) {after : List ℕ} → i < length ws → at ≡ 8 * i → after ≡ sets bytes at (bytes_of 8 (get_or ws i 0)) →
    sets after (8 * (i + 1)) (file_bytes (drop (i + 1) ws)) ≡ sets bytes (8 * i) (file_bytes (drop i ws))
unfolding file_bytes
word_stored ws bytes i at within place stored =
    let w = get_or ws i 0 in
    let next : 8 * i + length (bytes_of 8 w) ≡ 8 * suc i = omega (arith, length_bytes_of 8 w) in
    rw (stored, place, add-one, drop-cons ws i 0) (rw (← next) (sets_sets bytes (8 * i) (bytes_of 8 w) (file_bytes (drop (suc i) ws))))

-- after the last turn no word is left
pub no_word_left : (ws bytes : List ℕ) (i : ℕ) → length ws ≡ i → bytes ≡ sets bytes (8 * i) (file_bytes (drop i ws))
unfolding file_bytes
no_word_left ws bytes i all = rw (← all, drop-length)

pub all_stored :
    (ws old : List ℕ) → 8 * length ws ≤ length old → sets old 0 (file_bytes ws) ≡ file_bytes ws ++ drop (8 * length ws) old
all_stored ws old room =
    let all : 0 + length (file_bytes ws) ≡ 8 * length ws = omega (arith, length_file_bytes ws) in
    rw (← all) (sets-eq (file_bytes ws) old 0 (omega arith))
