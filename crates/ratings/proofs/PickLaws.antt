-- Laws of the pick among weights, over any numbers: what it is for one, two and three of them, that it puts them in ascending order, that the order in which they
-- come does not matter, that it is one of them, and that it commutes with every rising function. No axioms.
use mathlib.Core.HLevel.{hedberg}
use mathlib.Core.List.{List, [], ◌∷◌, map, Mem, mem-cons_self, mem-cons_of_mem}
use mathlib.Core.List.Permᴰ
use mathlib.Core.List.{Perm, Permᴰ}
use mathlib.Core.Logic.{◌⊎◌, inl, inr, ⊎_elim, ∥∥₁_elim}
use mathlib.Core.Path.{◌≡◌, refl, ◌∙◌, ap}
use Prim.Native.Nat.{ℕ, zero, suc, ◌-◌, min, max, ◌≤◌}
use native.Mathlib.Decide.{ℕ_discrete}
use native.Mathlib.Nat.{eq-zero-or-pos, min_comm, max_comm, min-eq_left, min-eq_right, max-eq_left, max-eq_right, le_of_lt}
use native.Mathlib.Omega.{arith}
use lib.ListN.{take}
use Rattle.numbers.proofs.SmallerLarger.{le_or_lt, at_min, at_max, min_of_rising, max_of_rising}
use Rattle.ratings.specs.RatingTable.{insert_ascending, ascending, highest, pick}

-- ---- by the number of weights

-- one; two; three that differ, the middle one last and first; two equal ones, which count separately, with a higher and with a lower one
pub pick_by_numbers :
    (pick (50 ∷ []) ≡ 50) × (pick (105 ∷ 50 ∷ []) ≡ 105) × (pick (20 ∷ 105 ∷ 50 ∷ []) ≡ 50) × (pick (50 ∷ 105 ∷ 20 ∷ []) ≡ 50) ×
    (pick (20 ∷ 20 ∷ 105 ∷ []) ≡ 20) × (pick (105 ∷ 20 ∷ 105 ∷ []) ≡ 105)
pick_by_numbers = (refl, refl, refl, refl, refl, refl)

-- one rating's own weight counts
pub pick_one : (a : ℕ) → pick (a ∷ []) ≡ a
pick_one a = omega arith

-- "two ratings still give the higher weight"
pub pick_two : (a b : ℕ) → pick (a ∷ b ∷ []) ≡ max a b
pick_two a b = omega arith

-- of three the middle one: the first, raised to the lower of the others and lowered to the higher of them
pub pick_three : (a b c : ℕ) → pick (a ∷ b ∷ c ∷ []) ≡ min (max a (min b c)) (max b c)
pick_three a b c = beside_two (min b c) (max b c) (omega arith)
  where
    beside_two : (low high : ℕ) → low ≤ high → max (min a low) (max (min (max a low) high) 0) ≡ min (max a low) high
    beside_two low high h = omega arith

-- "with three, the two lowest weights are picked and the higher of these counts": of a ≤ b ≤ c it is b
pub pick_middle : (a b c : ℕ) → a ≤ b → b ≤ c → pick (a ∷ b ∷ c ∷ []) ≡ b
pick_middle a b c low high = pick_three a b c ∙ omega arith

-- ---- the order does not matter

-- inserted one after the other, two numbers leave another pair of numbers to be inserted further on, and the pair is the same, in this order or the other
pairs_left :
    (a b first : ℕ) →
    ((max a (min b first) ≡ max b (min a first)) × (max b first ≡ max a first)) ⊎
    ((max a (min b first) ≡ max a first) × (max b first ≡ max b (min a first)))
pairs_left a b first =
    ⊎_elim (λ e. inl (omega arith, omega arith)) (λ l. inr (omega arith, omega arith)) (eq-zero-or-pos (max a b - first))

insert_exchanged :
    (a b : ℕ) (ns : List ℕ) → insert_ascending a (insert_ascending b ns) ≡ insert_ascending b (insert_ascending a ns)
insert_exchanged a b [] = cc (min_comm a b, max_comm a b)
insert_exchanged a b (first ∷ others) =
    let heads : min a (min b first) ≡ min b (min a first) = omega arith in
    ⊎_elim
    (λ same. cc (heads, same.0, same.1))
    (λ other. cc (heads, other.0, other.1, insert_exchanged (max a first) (max b first) others))
    (pairs_left a b first)

ascending_permuted : {ns ms : List ℕ} → Permᴰ ns ms → ascending ns ≡ ascending ms
ascending_permuted Permᴰ.nil = refl
ascending_permuted (Permᴰ.cons e p) = cc (e, ascending_permuted p)
ascending_permuted (Permᴰ.swap {a = a} {b = b} {l = l} e f) = cc (e, f, insert_exchanged a b (ascending l))
ascending_permuted (Permᴰ.trans p q) = ascending_permuted p ∙ ascending_permuted q

pub pick_permuted : {ns ms : List ℕ} → Perm ns ms → pick ns ≡ pick ms
pick_permuted {ns} {ms} p =
    ∥∥₁_elim p (hedberg ℕ_discrete (pick ns) (pick ms)) (λ q. ap (λ (l : List ℕ). highest (take 2 l)) (ascending_permuted q))

-- ---- what each of the weights has

-- of one weight or more, one or more are picked
record Picked (n : ℕ) (ns : List ℕ) : Type 0 where
  lowest : ℕ
  others : List ℕ
  these : take 2 (insert_ascending n ns) ≡ lowest ∷ others

picked : (n : ℕ) (ns : List ℕ) → Picked n ns
picked n [] = record { lowest = n; others = []; these = refl }
picked n (first ∷ rest) = record { lowest = min n first; others = take 1 (insert_ascending (max n first) rest); these = refl }

module _ (P : ℕ → Type 0) where
  -- each of the numbers has the property
  abbrev pub Each : List ℕ → Type 0
  Each [] = Unit
  Each (n ∷ others) = P n × Each others

  inserted_have : (n : ℕ) (ns : List ℕ) → P n → Each ns → Each (insert_ascending n ns)
  inserted_have n [] p each = (p, each)
  inserted_have n (first ∷ others) p each =
      (at_min P n first p each.0, inserted_have (max n first) others (at_max P n first p each.0) each.1)

  ascending_have : (ns : List ℕ) → Each ns → Each (ascending ns)
  ascending_have [] each = each
  ascending_have (n ∷ others) each = inserted_have n (ascending others) each.0 (ascending_have others each.1)

  taken_have : (k : ℕ) (ns : List ℕ) → Each ns → Each (take k ns)
  taken_have zero ns each = tt
  taken_have (suc k) [] each = tt
  taken_have (suc k) (n ∷ others) each = (each.0, taken_have k others each.1)

  highest_has : (n : ℕ) (others : List ℕ) → P n → Each others → P (highest (n ∷ others))
  highest_has n [] p each = let m : max n 0 ≡ n = omega arith in rw m p
  highest_has n (m ∷ others) p each = at_max P n (highest (m ∷ others)) p (highest_has m others each.0 each.1)

  -- what each of the weights has, the pick has
  pub pick_has : (n : ℕ) (others : List ℕ) → Each (n ∷ others) → P (pick (n ∷ others))
  pick_has n others each =
      let two = picked n (ascending others) in
      let have = rw two.these at (taken_have 2 (ascending (n ∷ others)) (ascending_have (n ∷ others) each)) in
      rw two.these (highest_has two.lowest two.others have.0 have.1)

  -- numbers that all come from a function whose values have the property
  pub each_value : (f : ℕ → ℕ) → ((n : ℕ) → P (f n)) → (ns : List ℕ) → Each (map f ns)
  each_value f has [] = tt
  each_value f has (n ∷ others) = (has n, each_value f has others)

each_implies : (P Q : ℕ → Type 0) → ((n : ℕ) → P n → Q n) → (ns : List ℕ) → Each P ns → Each Q ns
each_implies P Q f [] each = tt
each_implies P Q f (n ∷ others) each = (f n each.0, each_implies P Q f others each.1)

each_member : (ns : List ℕ) → Each (λ n. Mem n ns) ns
each_member [] = tt
each_member (n ∷ others) =
    (mem-cons_self, each_implies (λ m. Mem m others) (λ m. Mem m (n ∷ others)) (λ m. mem-cons_of_mem n) others (each_member others))

-- ---- the weights in ascending order

-- no number is above a later one
abbrev pub Ascending : List ℕ → Type 0
Ascending [] = Unit
Ascending (n ∷ others) = Each (λ m. n ≤ m) others × Ascending others

inserted_ascending : (n : ℕ) (ns : List ℕ) → Ascending ns → Ascending (insert_ascending n ns)
inserted_ascending n [] rises = (tt, tt)
inserted_ascending n (first ∷ others) rises =
    let least : ℕ → Type 0 = λ m. min n first ≤ m in (
      inserted_have least (max n first) others (omega arith) (each_implies (λ m. first ≤ m) least (λ m h. omega arith) others rises.0),
      inserted_ascending (max n first) others rises.1,
    )

pub ascending_rises : (ns : List ℕ) → Ascending (ascending ns)
ascending_rises [] = tt
ascending_rises (n ∷ others) = inserted_ascending n (ascending others) (ascending_rises others)

lower_then_higher : (a b : ℕ) (ns : List ℕ) → Permᴰ (min a b ∷ max a b ∷ ns) (a ∷ b ∷ ns)
lower_then_higher a b ns =
    ⊎_elim
    (λ l. Permᴰ.cons (min-eq_left l) (Permᴰ.cons (max-eq_right l) (Permᴰ.refl ns)))
    (λ l. Permᴰ.swap (min-eq_right (le_of_lt l)) (max-eq_left (le_of_lt l)))
    (le_or_lt a b)

inserted_permutes : (n : ℕ) (ns : List ℕ) → Permᴰ (insert_ascending n ns) (n ∷ ns)
inserted_permutes n [] = Permᴰ.refl (n ∷ [])
inserted_permutes n (first ∷ others) =
    Permᴰ.trans (Permᴰ.cons refl (inserted_permutes (max n first) others)) (lower_then_higher n first others)

-- the same numbers, each as often as it was
pub ascending_permutes : (ns : List ℕ) → Perm (ascending ns) ns
ascending_permutes ns = ∣ derived ns ∣₁
  where
    derived : (ms : List ℕ) → Permᴰ (ascending ms) ms
    derived [] = Permᴰ.nil
    derived (n ∷ others) =
        Permᴰ.trans (inserted_permutes n (ascending others)) (Permᴰ.cons refl (derived others))

-- ---- the pick is one of the weights

pub pick_is_one : (n : ℕ) (others : List ℕ) → Mem (pick (n ∷ others)) (n ∷ others)
pick_is_one n others = pick_has (λ m. Mem m (n ∷ others)) n others (each_member (n ∷ others))

-- so it lies between the lowest and the highest of them
pub pick_between :
    (least most n : ℕ) (others : List ℕ) → Each (λ m. (least ≤ m) × (m ≤ most)) (n ∷ others) →
    (least ≤ pick (n ∷ others)) × (pick (n ∷ others) ≤ most)
pick_between least most n others = pick_has (λ m. (least ≤ m) × (m ≤ most)) n others

-- and it is not above a limit that no weight passes
pub pick_at_most : (most : ℕ) (ns : List ℕ) → Each (λ m. m ≤ most) ns → pick ns ≤ most
pick_at_most most [] each = omega arith
pick_at_most most (n ∷ others) each = pick_has (λ m. m ≤ most) n others each

-- ---- the pick commutes with every rising function, so with rounding and with floor and cap

module _ (f : ℕ → ℕ) (rising : (a b : ℕ) → a ≤ b → f a ≤ f b) where
  inserted_of_rising : (n : ℕ) (ns : List ℕ) → insert_ascending (f n) (map f ns) ≡ map f (insert_ascending n ns)
  inserted_of_rising n [] = refl
  inserted_of_rising n (first ∷ others) =
      cc (min_of_rising f rising n first, max_of_rising f rising n first, inserted_of_rising (max n first) others)

  ascending_of_rising : (ns : List ℕ) → ascending (map f ns) ≡ map f (ascending ns)
  ascending_of_rising [] = refl
  ascending_of_rising (n ∷ others) = cc (ascending_of_rising others, inserted_of_rising n (ascending others))

  taken_of_rising : (k : ℕ) (ns : List ℕ) → take k (map f ns) ≡ map f (take k ns)
  taken_of_rising zero ns = refl
  taken_of_rising (suc k) [] = refl
  taken_of_rising (suc k) (n ∷ others) = ap (λ (l : List ℕ). f n ∷ l) (taken_of_rising k others)

  highest_of_rising : (n : ℕ) (others : List ℕ) → highest (map f (n ∷ others)) ≡ f (highest (n ∷ others))
  highest_of_rising n [] = let m : max n 0 ≡ n = omega arith in rw m (omega arith)
  highest_of_rising n (m ∷ others) = cc (highest_of_rising m others, max_of_rising f rising n (highest (m ∷ others)))

  pub pick_of_rising : (n : ℕ) (others : List ℕ) → pick (map f (n ∷ others)) ≡ f (pick (n ∷ others))
  pick_of_rising n others =
      let two = picked n (ascending others) in
      ap (λ (l : List ℕ). highest (take 2 l)) (ascending_of_rising (n ∷ others)) ∙
      ap highest (taken_of_rising 2 (ascending (n ∷ others))) ∙
      rw two.these (highest_of_rising two.lowest two.others)
