-- What holds from some k on, and the facts about Low(k) and Up(k) of l, of x and of l + x that the ends of a raw weight rest on.
-- No axioms.
use mathlib.Core.Path.{subst}
use Prim.Native.Nat.{ℕ, suc, ◌+◌, ◌*◌, ◌^◌, ◌≤◌, ◌<◌}
use native.Mathlib.Nat.{add_assoc, add_comm, mul-le-mul_left, mul-le-mul_right, le_of_mul-le-mul_right}
use native.Mathlib.Omega.{arith}
use Rattle.series.specs.Fraction.{Fraction, over, AtMost}
use Rattle.series.specs.Series.{factorial, low, up, term, Admitted}
use Rattle.series.proofs.SeriesLaws.{low_bottom_pos, up_bottom_pos, low_at_least_one, low_rises, up_falls, bounds_converge}
use Rattle.series.proofs.Exponents.{low_of_sum_at_most, low_of_sum_at_least}
use Rattle.series.specs.Bounds.{NotAbove, NotBelow}

pub record Eventually (P : ℕ → Type 0) : Type 0 where
  pub from : ℕ
  pub at : (d : ℕ) → P (d + from)

pub both_eventually : {P Q : ℕ → Type 0} → Eventually P → Eventually Q → Eventually (λ k. P k × Q k)
both_eventually {P} {Q} p q = record {
  from = p.from + q.from;
  at = λ d. (
    subst P (omega arith) (p.at (d + q.from)),
    subst Q (omega arith) (q.at (d + p.from)),
  );
}

pub map_eventually : {P Q : ℕ → Type 0} → ((k : ℕ) → P k → Q k) → Eventually P → Eventually Q
map_eventually f p = record { from = p.from; at = λ d. f (d + p.from) (p.at d) }

pub at_some_k : {P : ℕ → Type 0} → Eventually P → (k : ℕ) × P k
at_some_k p = (0 + p.from, p.at 0)

-- where c × w ≤ s × l, l is at least 1 and c × 2 × t ≤ 1, also c × (w + 2 × t) ≤ (s + 1) × l
tail_room : (c s : ℕ) (w l t : Fraction) → c * w.top * l.bottom ≤ s * l.top * w.bottom → l.bottom ≤ l.top → c * (2 * t.top) ≤ t.bottom →
    c * (w.top * (1 * t.bottom) + 2 * t.top * w.bottom) * l.bottom ≤ suc s * l.top * (w.bottom * (1 * t.bottom))
tail_room c s w l t h one small =
    omega (
      arith,
      mul-le-mul_right t.bottom h,
      mul-le-mul_right (w.bottom * l.bottom) small,
      mul-le-mul_right (w.bottom * t.bottom) one,
    )

-- v ≤ u and s × u ≤ c × w give s × v ≤ c × w
at_most_through : (s c : ℕ) (v u w : Fraction) → 0 < u.bottom → AtMost v u → s * u.top * w.bottom ≤ c * w.top * u.bottom →
    s * v.top * w.bottom ≤ c * w.top * v.bottom
at_most_through s c v u w pos h g =
    le_of_mul-le-mul_right {k = u.bottom}
    (omega (arith, mul-le-mul_left (s * w.bottom) h, mul-le-mul_right v.bottom g))
    pos

module _ (b : ℕ) (b_pos : 0 < b) where
  -- c / s is at most e^(−q): from some k on c × Up(k) ≤ s + 1
  pub up_bounded : {c s : ℕ} (a : ℕ) → NotAbove c s (over a b) → Eventually (λ k. c * (up (over a b) k).top ≤ suc s * (up (over a b) k).bottom)
  up_bounded {c} {s} a n =
      let closed = bounds_converge (over a b) b_pos c in
      record {
        from = closed.0;
        at = λ d.
            let k = d + closed.0 in
            omega (arith, tail_room c s (low (over a b) k) (over 1 1) (term (over a b) (suc k)) (omega (arith, n.every k)) (omega arith) (closed.1 d).1);
      }

  -- c / s is at least e^(−q): from some k on s ≤ c × Low(k)
  pub low_bounded : {c s : ℕ} (a : ℕ) → NotBelow c s (over a b) → Eventually (λ k. s * (low (over a b) k).bottom ≤ c * (low (over a b) k).top)
  low_bounded {c} {s} a n = record {
    from = n.some_k;
    at = λ d.
        le_of_mul-le-mul_right {k = (low (over a b) n.some_k).bottom}
        (omega (
          arith,
          mul-le-mul_left c (low_rises (over a b) d n.some_k),
          mul-le-mul_right (low (over a b) (d + n.some_k)).bottom n.holds,
        ))
        (low_bottom_pos (over a b) b_pos n.some_k);
  }

  -- both exponents are admitted from some k on
  pub admitted_eventually : (a : ℕ) → Eventually (Admitted (over a b))
  admitted_eventually a =
      let closed = bounds_converge (over a b) b_pos 0 in
      record { from = closed.0; at = λ d. (closed.1 d).0 }

  module _ (a x : ℕ) {c s : ℕ} where
    -- c / s is at most e^(−x): from some k on c × Up(k) of a + x is at most (s + 1) × Low(k) of a
    pub over_eventually : NotAbove c s (over x b) →
        Eventually
        (λ k.
        c * (up (over (a + x) b) k).top * (low (over a b) k).bottom ≤
        suc s * (low (over a b) k).top * (up (over (a + x) b) k).bottom)
    over_eventually n =
        let closed = bounds_converge (over (a + x) b) b_pos c in
        record {
          from = closed.0;
          at = λ d.
              let k = d + closed.0 in
              tail_room c s (low (over (a + x) b) k) (low (over a b) k) (term (over (a + x) b) (suc k)) (lows k)
              (low_at_least_one (over a b) k) (closed.1 d).1;
        }
      where
        lows : (k : ℕ) → c * (low (over (a + x) b) k).top * (low (over a b) k).bottom ≤ s * (low (over a b) k).top * (low (over (a + x) b) k).bottom
        lows k =
            le_of_mul-le-mul_right {k = (low (over x b) k).bottom}
            (omega (
              arith,
              mul-le-mul_left c (low_of_sum_at_most a x b k b_pos),
              mul-le-mul_left ((low (over a b) k).top * (low (over (a + x) b) k).bottom) (n.every k),
            ))
            (low_bottom_pos (over x b) b_pos k)

    -- c / s is at least e^(−x): from some k on s × Up(k) of a is at most (c + 1) × Low(k) of a + x
    pub under_eventually : NotBelow c s (over x b) →
        Eventually
        (λ k.
        s * (up (over a b) k).top * (low (over (a + x) b) k).bottom ≤
        suc c * (low (over (a + x) b) k).top * (up (over a b) k).bottom)
    under_eventually n =
        record {
          from = closed.0 + j;
          at = λ d. rw (← add_assoc d closed.0 j) (later (d + closed.0) (closed.1 d).0 (closed.1 d).1);
        }
      where
        j : ℕ
        j = n.some_k

        closed : (k₀ : ℕ) × ((d : ℕ) → Admitted (over a b) (d + k₀) ×
            (s * (2 * (term (over a b) (suc (d + k₀))).top) ≤ (term (over a b) (suc (d + k₀))).bottom))
        closed = bounds_converge (over a b) b_pos s

        lows : (i : ℕ) → s * (low (over a b) i).top * (low (over (a + x) b) (i + j)).bottom ≤ c * (low (over (a + x) b) (i + j)).top * (low (over a b) i).bottom
        lows i =
            le_of_mul-le-mul_right {k = (low (over x b) j).bottom}
            (omega (
              arith,
              mul-le-mul_left c (low_of_sum_at_least a x b i j b_pos),
              mul-le-mul_left ((low (over a b) i).top * (low (over (a + x) b) (i + j)).bottom) n.holds,
            ))
            (low_bottom_pos (over x b) b_pos j)

        later : (i : ℕ) → Admitted (over a b) i → s * (2 * a ^ suc i) ≤ b ^ suc i * factorial (suc i) →
            s * (up (over a b) (i + j)).top * (low (over (a + x) b) (i + j)).bottom ≤
            suc c * (low (over (a + x) b) (i + j)).top * (up (over a b) (i + j)).bottom
        later i adm small =
            at_most_through s (suc c) (up (over a b) (i + j)) (up (over a b) i) (low (over (a + x) b) (i + j)) (up_bottom_pos (over a b) b_pos i)
            (rw (add_comm i j) (up_falls (over a b) b_pos j i adm))
            (tail_room s c (low (over a b) i) (low (over (a + x) b) (i + j)) (term (over a b) (suc i)) (lows i)
            (low_at_least_one (over (a + x) b) (i + j)) small)
