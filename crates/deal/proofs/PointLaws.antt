-- Laws of the points: none is above 1,000,000, more senior tranches give no higher point, A is at most D, and tranches of one class have the same
-- points. They hold for every list of words, accepted or not. No axioms.
use mathlib.Core.List.{List}
use mathlib.Core.Logic.{⊎_elim}
use mathlib.Core.Path.{◌≡◌}
use Prim.Native.Nat.{ℕ, ◌+◌, ◌*◌, ◌-◌, ◌≤◌, ◌<◌}
use native.Mathlib.Nat.{eq-zero-or-pos, le_refl, div-zero, div-le_of_le-mul, div-mul-le_self, lt-div-mul-add, lt_of_mul-lt-mul_right}
use native.Mathlib.Omega.{arith}
use lib.Dec.{ltb}
use borrow.Author.Tests.{lt-ltb, ltb-true}
use Rattle.numbers.proofs.Tests.{at_cond}
use Rattle.judgement.specs.DealSheet.{tranche_count, amount, class}
use Rattle.numbers.specs.Sum.{where_counted}
use Rattle.numbers.proofs.SumLaws.{sum_ordered}
use Rattle.pool.specs.PoolSums.{pool_sums}
use Rattle.deal.specs.Points.{senior_amount, point, attachment_point, detachment_point}

pub point_at_most : (N x : ℕ) → point N x ≤ 1000000
point_at_most N x = div-le_of_le-mul N (omega arith)

pub point_ordered : (N x y : ℕ) → x ≤ y → point N y ≤ point N x
point_ordered N x y h =
    ⊎_elim
    (λ e. rw e (omega (arith, div-zero ((0 - y) * 1000000))))
    (λ pos.
    let below : point N y < point N x + 1 = lt_of_mul-lt-mul_right N
    (omega (arith, div-mul-le_self ((N - y) * 1000000) N, lt-div-mul-add {a = (N - x) * 1000000} pos)) in
    omega arith)
    (eq-zero-or-pos N)

counted_more : (c e a x : ℕ) → c ≤ e → where_counted (ltb a c) x ≤ where_counted (ltb a e) x
counted_more c e a x h =
    at_cond (λ y. y ≤ where_counted (ltb a e) x) (ltb a c) x 0
    (λ t. rw (lt-ltb a e (omega (arith, ltb-true a c t))) (le_refl x))
    (λ t. omega arith)

pub senior_amount_ordered : (s : List ℕ) (c e : ℕ) → c ≤ e → senior_amount s c ≤ senior_amount s e
unfolding senior_amount
senior_amount_ordered s c e h =
    sum_ordered (λ j. where_counted (ltb (class s j) c) (amount s j)) (λ j. where_counted (ltb (class s j) e) (amount s j)) (tranche_count s)
    (λ j l. counted_more c e (class s j) (amount s j) h)

pub attachment_at_most_detachment : (s : List ℕ) (i : ℕ) → attachment_point s i ≤ detachment_point s i
unfolding attachment_point detachment_point
attachment_at_most_detachment s i =
    omega (
      arith,
      point_ordered (pool_sums s).all.nominal (senior_amount s (class s i)) (senior_amount s (class s i + 1))
          (senior_amount_ordered s (class s i) (class s i + 1) (omega arith)),
    )

pub detachment_at_most_million : (s : List ℕ) (i : ℕ) → detachment_point s i ≤ 1000000
unfolding detachment_point
detachment_at_most_million s i = point_at_most (pool_sums s).all.nominal (senior_amount s (class s i))

-- "Equal classes rank pari passu."
pub pari_passu :
    (s : List ℕ) (i j : ℕ) → class s i ≡ class s j →
    (attachment_point s i ≡ attachment_point s j) × (detachment_point s i ≡ detachment_point s j)
unfolding attachment_point detachment_point
pari_passu s i j e = (rw e, rw e)
