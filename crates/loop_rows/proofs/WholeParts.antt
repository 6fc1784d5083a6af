-- A whole number in parts, as the code makes it, and a difference with one.
use Rattle.std.proofs.Common.{◌≡◌, ℕ, ℤ, pos, ◌^◌, ◌<◌, ◌≤◌, ◌-ℤ◌, ◌*ℤ◌, unsigned_abs, to_z, of_z, w64, FitsSigned, refl, arith, mul-le-mul_right}
use Rattle.std.specs.Int.{w128}
use Rattle.std.proofs.lemmas.Int.{ints, to_z-of_z, to_z_pos, unsigned_abs-mul, fits_signed_from_abs}
use Rattle.artery_model.specs.Bounds.{most_parts}

module _ (z : ℤ) (p : ℕ) (f : FitsSigned w64 z) (h : p ≤ most_parts) where
  size : unsigned_abs z ≤ 2 ^ 63
  size = omega (arith, ints, f.sfits)

  pub whole_small : unsigned_abs (z *ℤ pos p) < 2 ^ 80
  whole_small = let e = mul-le-mul_right p size in rw (unsigned_abs-mul z (pos p)) (omega (arith, e))

  pub whole_wide : FitsSigned w128 (to_z w64 (of_z w64 z))
  whole_wide = let s = size in rw (to_z-of_z w64 z f) (fits_signed_from_abs w128 z (omega (arith, s)))

  pub whole_made : to_z w128 (of_z w128 (to_z w64 (of_z w64 z))) *ℤ to_z w128 p ≡ z *ℤ pos p
  whole_made = rw (to_z-of_z w128 (to_z w64 (of_z w64 z)) whole_wide, to_z-of_z w64 z f, to_z_pos w128 p (omega arith)) refl

  pub whole_fits : FitsSigned w128 (z *ℤ pos p)
  whole_fits = let s = whole_small in fits_signed_from_abs w128 _ (omega (arith, s))

module _ (a b : ℤ) (h : unsigned_abs a < 2 ^ 64) (k : unsigned_abs b < 2 ^ 80) where
  pub less_made : to_z w128 (of_z w128 a) -ℤ to_z w128 (of_z w128 b) ≡ a -ℤ b
  less_made = rw (to_z-of_z w128 a (fits_signed_from_abs w128 a (omega arith)), to_z-of_z w128 b (fits_signed_from_abs w128 b (omega arith))) refl

  pub less_small : unsigned_abs (a -ℤ b) < 2 ^ 100
  less_small = omega (arith, ints)

  pub less_fits : FitsSigned w128 (a -ℤ b)
  less_fits = let s = less_small in fits_signed_from_abs w128 _ (omega (arith, s))
