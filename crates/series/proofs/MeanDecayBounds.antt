-- The facts by which it is shown that a whole number lies on one side of 2^27 × (1 − e^(−x)) / x (Bounds.antt): by polynomials where x is small, by a quotient elsewhere. No axioms.
use mathlib.Core.Logic.{⊎_elim}
use mathlib.Core.Path.{◌≡◌, ap}
use Prim.Native.Nat.{ℕ, suc, ◌+◌, ◌*◌, ◌^◌, ◌≤◌, ◌<◌}
use native.Mathlib.Nat.{mul-le-mul, mul-le-mul_left, mul-le-mul_right, mul-pos, le-mul_of_pos_right}
use native.Mathlib.Omega.{arith}
use Rattle.series.specs.Bounds.{MeanDecayHigh, MeanDecayLow}
use Rattle.numbers.proofs.SmallerLarger.{le_or_lt}
use Rattle.series.proofs.Rest.{third, third_equation, third_not_above}

pub mean_decay_low_weaker : {a b h : ℕ} (h' : ℕ) → h' ≤ h → MeanDecayLow a b h → MeanDecayLow a b h'
mean_decay_low_weaker {a} h' l w = record {
  c = w.c;
  s = w.s;
  s_pos = w.s_pos;
  bound = w.bound;
  holds = omega (arith, mul-le-mul_left w.s (mul-le-mul_right a l), w.holds);
}

pub scale_up : (m c s : ℕ) → m * c * s ≤ c * (m * s)
scale_up m c s = omega arith

-- the polynomial facts behind x small: first with the numbers, then with the series' polynomials
module _ (a b : ℕ) where
  pub small_third : (g h : ℕ) → 0 < b → 2 ^ 9 * a ≤ b → g * b ≤ 2 ^ 26 * a → h + g ≡ 2 ^ 27 + 171 →
      2 ^ 27 * (6 * (b * b) + 2 * (a * a)) + 1 ≤ 6 * (b * b) * h + 3 * (a * b) * 2 ^ 27
  small_third g h pos ninth slope e =
      omega (arith, mul-le-mul ninth ninth, mul-pos pos pos, mul-le-mul_left (6 * b) slope, ap (λ (t : ℕ). 6 * (b * b) * t) e)

  pub by_third : (M h T : ℕ) → 0 < a → M * (6 * (b * b) + 2 * (a * a)) + 1 ≤ 6 * (b * b) * h + 3 * (a * b) * M →
      T + (6 * (a * (b * b)) + 2 * (a * (a * a))) ≡ 6 * (b * (b * b)) + 3 * (a * (a * b)) →
      suc (M * (6 * (b * (b * b)))) * (M * b) ≤ suc (M * (6 * (b * (b * b)))) * (h * a) + M * T * (M * b)
  by_third M h T pos q t =
      omega (arith, mul-le-mul_left (a * b * M) q, ap (λ (x : ℕ). M * M * b * x) t, mul-le-mul_left (M * b) pos)

  pub small_second : (g h : ℕ) → 2 ^ 26 * a < suc g * b → h + (g + 1) ≡ 2 ^ 27 → 2 * (b * h) + 2 ^ 27 * a + 1 ≤ 2 * (b * 2 ^ 27)
  small_second g h slope e = omega (arith, ap (λ (t : ℕ). 2 * b * t) e)

  pub by_second : (M h T : ℕ) → 0 < a → 2 * (b * h) + M * a + 1 ≤ 2 * (b * M) → T + 2 * (a * b) ≡ 2 * (b * b) + a * a →
      M * (2 * (b * b)) * (h * a) + suc (M * T) * (M * b) ≤ M * (2 * (b * b)) * (M * b)
  by_second M h T pos q t =
      omega (arith, mul-le-mul_left (a * b * M) q, ap (λ (x : ℕ). M * M * b * x) t, mul-le-mul_left (M * b) pos)

-- the facts about the quotient of 1 − decay by x: X / 2^32 ≤ a / b < (X + 1) / 2^32
module _ (a b X : ℕ) where
  pub by_quotient : (c e M h : ℕ) → X * b ≤ a * 2 ^ 32 → e + c ≡ 2 ^ 32 + 1 → e * M ≤ h * X →
      suc (2 ^ 32) * (M * b) ≤ suc (2 ^ 32) * (h * a) + c * (M * b)
  by_quotient c e M h least f q =
      omega (arith, mul-le-mul_left h least, mul-le-mul_right b q, ap (λ (t : ℕ). t * (M * b)) f)

  pub from_quotient : (c h : ℕ) → a * 2 ^ 32 < suc X * b → h * suc X + c * 2 ^ 27 ≤ 2 ^ 32 * 2 ^ 27 →
      2 ^ 32 * (h * a) + c * (2 ^ 27 * b) ≤ 2 ^ 32 * (2 ^ 27 * b)
  from_quotient c h most q = omega (arith, mul-le-mul_left {m = a * 2 ^ 32} {n = suc X * b} h (omega arith), mul-le-mul_right b q)

module _ (a b : ℕ) (a-pos : 0 < a) (b_pos : 0 < b) where
  -- (1 − e^(−x)) / x is at most 1
  pub mean_decay_high_one : MeanDecayHigh a b (2 ^ 27)
  mean_decay_high_one = ⊎_elim large small (le_or_lt b a)
    where
      large : b ≤ a → MeanDecayHigh a b (2 ^ 27)
      large e = record { c = 0; s = 0; bound = record { every = λ k. omega arith }; holds = omega arith }

      squares : b ≤ a * a * (b * b)
      squares = omega (arith, mul-le-mul (mul-pos a-pos a-pos) (le-mul_of_pos_right b b_pos))

      small : a < b → MeanDecayHigh a b (2 ^ 27)
      small h =
          let below : a ≤ b = omega arith in
          record {
            c = third a b;
            s = 6 * (b * (b * b));
            bound = third_not_above a b b_pos below;
            holds = omega (arith, squares, mul-le-mul_left (a * a * b) below, ap (λ (t : ℕ). 2 ^ 27 * b * t) (third_equation a b below));
          }
