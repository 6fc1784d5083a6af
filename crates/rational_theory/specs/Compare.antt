-- The order of the rational numbers, as `cmp` answers it.
use Rattle.std.proofs.Common.{pos, ◌*ℤ◌, Ordering}
use Rattle.std.specs.Ordering.{int_cmp}
use Rattle.rational_theory.specs.Rational.{ℚ}

unfoldable pub cmp_ℚ : ℚ → ℚ → Ordering
cmp_ℚ x y = int_cmp (x.num *ℤ pos y.den) (y.num *ℤ pos x.den)
