-- The order of fractions: plus, times and a fixed division keep it, an inverse turns it round. No axioms.
use Prim.Native.Nat.{◌*◌, ◌<◌}
use native.Mathlib.Nat.{mul-le-mul_right, le_of_mul-le-mul_right}
use native.Mathlib.Omega.{arith}
use Rattle.series.specs.Fraction.{Fraction, plus, times, divided_by, inverse, AtMost}

-- x ≤ y ≤ z gives x ≤ z
pub at_most_trans : (x y z : Fraction) → 0 < y.bottom → AtMost x y → AtMost y z → AtMost x z
at_most_trans x y z p h l = le_of_mul-le-mul_right {k = y.bottom} (omega (arith, mul-le-mul_right z.bottom h, mul-le-mul_right x.bottom l)) p

-- x ≤ y gives x ≤ y + z
pub at_most_plus : (x y z : Fraction) → AtMost x y → AtMost x (plus y z)
at_most_plus x y z h = omega (arith, mul-le-mul_right z.bottom h)

-- x ≤ y and u ≤ v give x + u ≤ y + v
pub plus_at_most_plus : (x y u v : Fraction) → AtMost x y → AtMost u v → AtMost (plus x u) (plus y v)
plus_at_most_plus x y u v h l = omega (arith, mul-le-mul_right (u.bottom * v.bottom) h, mul-le-mul_right (x.bottom * y.bottom) l)

-- x ≤ y gives z × x ≤ z × y
pub times_at_most_times : (x y z : Fraction) → AtMost x y → AtMost (times z x) (times z y)
times_at_most_times x y z h = omega (arith, mul-le-mul_right (z.top * z.bottom) h)

-- x ≤ y gives x / z ≤ y / z
pub divided_at_most_divided : (x y z : Fraction) → AtMost x y → AtMost (divided_by x z) (divided_by y z)
divided_at_most_divided x y z h = omega (arith, mul-le-mul_right (z.top * z.bottom) h)

-- x ≤ y gives 1 / y ≤ 1 / x
pub inverse_at_most_inverse : (x y : Fraction) → AtMost x y → AtMost (inverse y) (inverse x)
inverse_at_most_inverse x y h = omega arith
