-- Sums of fractions of at most 63 bits.
use Rattle.std.specs.Int.{w128}
use Rattle.std.proofs.Common.{SFits, ◌+ℤ◌, ◌*◌, ℕ, ℤ, pos, ◌*ℤ◌, ◌/◌, ◌<◌, ◌^◌, unsigned_abs, arith, div-le_self}
use Rattle.std.proofs.lemmas.Int.{ints, unsigned_abs-mul}
use Rattle.std.proofs.lemmas.Nat.{mul-lt}
use Rattle.rational_theory.specs.Gcd.{gcd}
use Rattle.rational_theory.specs.Rational.{ℚ}
use Rattle.narrow_fraction.specs.Past128.{SumFits}
use Rattle.narrow_fraction.specs.Short.{IsShort}

pub times_short : (z : ℤ) (n : ℕ) → unsigned_abs z < 2 ^ 63 → n < 2 ^ 63 → unsigned_abs (z *ℤ pos n) < 2 ^ 126
times_short z n h k = rw unsigned_abs-mul (mul-lt (unsigned_abs z) n (2 ^ 63) (2 ^ 63) h k)

pub word_fits : (n : ℕ) → n < 2 ^ 63 → SFits w128 (pos n)
word_fits n h = record { sfits = omega (arith, ints) }

pub short_in : (z : ℤ) → unsigned_abs z < 2 ^ 126 → SFits w128 z
short_in z h = omega (arith, ints)

pub sum_short : (x y : ℤ) → unsigned_abs x < 2 ^ 126 → unsigned_abs y < 2 ^ 126 → SFits w128 (x +ℤ y)
sum_short x y h k = omega (arith, ints)

pub sum_size : (x y : ℤ) → unsigned_abs x < 2 ^ 126 → unsigned_abs y < 2 ^ 126 → unsigned_abs (x +ℤ y) < 2 ^ 127
sum_size x y h k = omega (arith, ints)

pub short_part : (n k : ℕ) → n < 2 ^ 63 → n / k < 2 ^ 63
short_part n k h = omega (arith, div-le_self n k)

pub short_bottom : (n m k : ℕ) → n < 2 ^ 63 → m < 2 ^ 63 → n * (m / k) < 2 ^ 126
short_bottom n m k h l = mul-lt n (m / k) (2 ^ 63) (2 ^ 63) h (short_part m k l)

-- no step of their sum leaves 127 bits
pub short_fits : (x y : ℚ) → IsShort x → IsShort y → SumFits x y
short_fits x y h k =
    let g = gcd x.den y.den in
    let b = short_part x.den g h.den_short in
    let d = short_part y.den g k.den_short in
    let p = times_short x.num (y.den / g) h.num_short d in
    let q = times_short y.num (x.den / g) k.num_short b in
    record {
      left = omega arith;
      right = omega arith;
      top = sum_size (x.num *ℤ pos (y.den / g)) (y.num *ℤ pos (x.den / g)) p q;
      bottom = omega (arith, short_bottom x.den y.den g h.den_short k.den_short);
    }
