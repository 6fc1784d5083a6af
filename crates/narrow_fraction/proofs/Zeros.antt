-- Products with 0 and sums with 0 are never refused.
use Rattle.std.proofs.Common.{◌≡◌, ℤ, pos, None, ◌+ℤ◌, ◌*ℤ◌, ◌/◌, ◌<◌, ◌^◌, sym, subst, arith, unsigned_abs, mul-one}
use Rattle.std.proofs.Math.Nat.{div-one}
use Rattle.std.proofs.Math.IntN.{zero-*ℤ}
use Rattle.std.proofs.lemmas.Int.{ints}
use Rattle.rational_theory.specs.Gcd.{gcd}
use Rattle.rational_theory.proofs.Fractions.{gcd-one}
use Rattle.rational_theory.specs.Rational.{ℚ, whole, ◌*ℚ◌}
use Rattle.narrow_fraction.specs.Fraction.{FitsFrac}
use Rattle.narrow_fraction.specs.Past128.{SumFits, past_wide}
use Rattle.narrow_fraction.proofs.Past128.{past_none}
use Rattle.narrow_fraction.specs.declared.wide.Op.TheVariants.{Add, Mul}

once : (z : ℤ) → z *ℤ pos 1 ≡ z
once z = omega (arith, ints)

nothing : (n : ℤ) → unsigned_abs (pos 0 *ℤ n) < 2 ^ 127
nothing n = rw (zero-*ℤ n) (omega arith)

still : (z n : ℤ) → unsigned_abs z < 2 ^ 127 → unsigned_abs (z +ℤ pos 0 *ℤ n) < 2 ^ 127
still z n h = rw (zero-*ℤ n) (omega (arith, ints))

pub zero_fits : FitsFrac (whole (pos 0))
unfolding whole
zero_fits = record { num_fits = omega arith; den_fits = omega arith }

pub sum_with_zero : (x : ℚ) → FitsFrac x → SumFits x (whole (pos 0))
unfolding whole
sum_with_zero x f = record {
  left = rw (gcd-one x.den, div-one 1, once x.num) f.num_fits;
  right = nothing (pos (x.den / gcd x.den 1));
  top = rw (gcd-one x.den, div-one 1, once x.num) (still x.num (pos (x.den / 1)) f.num_fits);
  bottom = rw (gcd-one x.den, div-one 1, mul-one x.den) f.den_fits;
}

-- a product that is 0
pub zero_product_passes : (x y : ℚ) → x *ℚ y ≡ whole (pos 0) → past_wide Mul x y ≡ None
zero_product_passes x y e = past_none Mul x y (subst FitsFrac (sym e) zero_fits)

-- 0 added to a number that fits
pub zero_sum_passes : (x y : ℚ) → FitsFrac x → y ≡ whole (pos 0) → past_wide Add x y ≡ None
zero_sum_passes x y f e = past_none Add x y (subst (λ t. SumFits x t) (sym e) (sum_with_zero x f))
