-- Fractions of whole numbers, compared by multiplying out. A comparison has its meaning where both bottoms are above 0; proofs/EndLaws.antt
-- (`upper_bottoms`, `lower_bottoms`) shows that of the ends of a raw weight.
use Rattle.std.specs.Prelude.{ℕ, ◌+◌, ◌*◌, ◌≤◌, ◌<◌}

pub record Fraction : Type 0 where
  pub top : ℕ
  pub bottom : ℕ

abbrev pub over : ℕ → ℕ → Fraction
over a b = record { top = a; bottom = b }

-- x + y
abbrev pub plus : Fraction → Fraction → Fraction
plus x y = over (x.top * y.bottom + y.top * x.bottom) (x.bottom * y.bottom)

-- x × y
abbrev pub times : Fraction → Fraction → Fraction
times x y = over (x.top * y.top) (x.bottom * y.bottom)

-- x / y
abbrev pub divided_by : Fraction → Fraction → Fraction
divided_by x y = over (x.top * y.bottom) (x.bottom * y.top)

-- the whole number n
abbrev pub whole : ℕ → Fraction
whole n = over n 1

-- 1 / x
abbrev pub inverse : Fraction → Fraction
inverse x = divided_by (whole 1) x

-- x ≤ y
abbrev pub AtMost : Fraction → Fraction → Type 0
AtMost x y = x.top * y.bottom ≤ y.top * x.bottom

-- x < y
abbrev pub Below : Fraction → Fraction → Type 0
Below x y = x.top * y.bottom < y.top * x.bottom
