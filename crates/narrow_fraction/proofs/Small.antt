-- Numbers of which neither part is great: no product or difference of a few is past 128 bits.
use Rattle.std.proofs.Common.{ℕ, ℤ, pos, ◌*ℤ◌, ◌*◌, ◌/◌, ◌<◌, ◌^◌, unsigned_abs, arith, mul-pos, div-le_self}
use Rattle.std.proofs.lemmas.Int.{ints, unsigned_abs-mul}
use Rattle.std.proofs.lemmas.Nat.{mul-lt}
use Rattle.rational_theory.specs.Gcd.{gcd}
use Rattle.rational_theory.specs.laws.Fractions.{abs-neg_ℤ}
use Rattle.rational_theory.specs.Rational.{ℚ, over, neg_ℚ, ◌*ℚ◌}
use Rattle.rational_theory.proofs.Lowest.{num_size, den_size}
use Rattle.narrow_fraction.specs.Fraction.{FitsFrac}
use Rattle.narrow_fraction.specs.Past128.{SumFits}

-- neither part of the number, in lowest terms, is too great
pub record IsSmall (b : ℕ) (x : ℚ) : Type 0 where
  pub num_small : unsigned_abs x.num < b
  pub den_small : x.den < b

pub small_product : (y z : ℚ) → IsSmall (2 ^ 42) y → IsSmall (2 ^ 42) z → IsSmall (2 ^ 84) (y *ℚ z)
unfolding ◌*ℚ◌
small_product y z h k =
    let d = mul-pos y.positive z.positive in
    let n = num_size (y.num *ℤ z.num) (y.den * z.den) d in
    let e = den_size (y.num *ℤ z.num) (y.den * z.den) d in
    let a = unsigned_abs-mul y.num z.num in
    let p = mul-lt (unsigned_abs y.num) (unsigned_abs z.num) (2 ^ 42) (2 ^ 42) h.num_small k.num_small in
    let q = mul-lt y.den z.den (2 ^ 42) (2 ^ 42) h.den_small k.den_small in
    record { num_small = omega arith; den_small = omega arith }

pub product_fits : (y z : ℚ) → IsSmall (2 ^ 42) y → IsSmall (2 ^ 42) z → FitsFrac (y *ℚ z)
product_fits y z h k = let p = small_product y z h k in let a = p.num_small in let b = p.den_small in record { num_fits = omega arith; den_fits = omega arith }

pub small_neg : (b : ℕ) (x : ℚ) → IsSmall b x → IsSmall b (neg_ℚ x)
unfolding neg_ℚ
small_neg b x h = record { num_small = rw (abs-neg_ℤ x.num) h.num_small; den_small = h.den_small }

times : (z : ℤ) (n : ℕ) (a b : ℕ) → unsigned_abs z < a → n < b → unsigned_abs (z *ℤ pos n) < a * b
times z n a b h k = rw unsigned_abs-mul (mul-lt (unsigned_abs z) n a b h k)

pub sum_fits : (x y : ℚ) → IsSmall (2 ^ 42) x → IsSmall (2 ^ 84) y → SumFits x y
sum_fits x y h k =
    let g = gcd x.den y.den in
    let b : x.den / g < 2 ^ 42 = omega (arith, div-le_self x.den g, h.den_small) in
    let d : y.den / g < 2 ^ 84 = omega (arith, div-le_self y.den g, k.den_small) in
    let p = times x.num (y.den / g) (2 ^ 42) (2 ^ 84) h.num_small d in
    let q = times y.num (x.den / g) (2 ^ 84) (2 ^ 42) k.num_small b in
    let r = mul-lt x.den (y.den / g) (2 ^ 42) (2 ^ 84) h.den_small d in
    record { left = omega arith; right = omega arith; top = omega (arith, ints); bottom = omega arith }

-- a row's number less the product: neither the product nor the difference is refused
pub difference_fits : (x y z : ℚ) → IsSmall (2 ^ 42) x → IsSmall (2 ^ 42) y → IsSmall (2 ^ 42) z → SumFits x (neg_ℚ (y *ℚ z))
difference_fits x y z h k l = sum_fits x (neg_ℚ (y *ℚ z)) h (small_neg (2 ^ 84) (y *ℚ z) (small_product y z k l))

-- what stands over a small denominator is small
pub over_small : (n : ℤ) (d b : ℕ) → 0 < d → unsigned_abs n < b → d < b → IsSmall b (over n d)
over_small n d b p h k = let s = num_size n d p in let t = den_size n d p in record { num_small = omega arith; den_small = omega arith }
