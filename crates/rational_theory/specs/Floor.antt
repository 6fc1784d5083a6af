-- The whole numbers next to a rational number.
use Rattle.std.proofs.Common.{ℤ, pos, neg_ℤ}
use Rattle.std.specs.Int.{int_div_euclid}
use Rattle.rational_theory.specs.Rational.{ℚ, neg_ℚ}

unfoldable pub floor_ℚ : ℚ → ℤ
floor_ℚ x = int_div_euclid x.num (pos x.den)

unfoldable pub ceil_ℚ : ℚ → ℤ
ceil_ℚ x = neg_ℤ (floor_ℚ (neg_ℚ x))
