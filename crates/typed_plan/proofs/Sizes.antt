-- How large a difference of two quantities is.
use Rattle.std.proofs.Common.{ℕ, ◌*◌, ◌/◌, ◌<◌, ◌≤◌, ◌^◌, pos, ℤ, arith, unsigned_abs, mul-pos}
use Rattle.std.specs.Prelude.{◌+ℤ◌, ◌*ℤ◌, neg_ℤ}
use Rattle.std.proofs.lemmas.Int.{ints, unsigned_abs-mul}
use Rattle.std.proofs.Math.Nat.{div-le_self, mul-div-le, mul-le-mul, mul-le-mul_right}
use Rattle.rational_theory.specs.Rational.{ℚ, ◌+ℚ◌, ◌-ℚ◌, neg_ℚ}
use Rattle.rational_theory.specs.laws.Fractions.{abs-neg_ℤ}
use Rattle.rational_theory.proofs.Lowest.{num_size}
use Rattle.narrow_fraction.specs.Past128.{SumFits}
use Rattle.narrow_fraction.proofs.Short.{short_fits}

module _ (x y : ℚ) (a : unsigned_abs x.num ≤ 100000) (b : x.den ≤ 1000) (c : unsigned_abs y.num ≤ 100000) (d : y.den ≤ 1000) where
  turned : unsigned_abs (neg_ℤ y.num) ≤ 100000
  turned = let e = abs-neg_ℤ y.num in omega (arith, e, c)

  pub later_num : unsigned_abs (x -ℚ y).num ≤ 200000000
  unfolding ◌+ℚ◌ neg_ℚ
  later_num =
      let size = num_size (x.num *ℤ pos y.den +ℤ neg_ℤ y.num *ℤ pos x.den) (x.den * y.den) (mul-pos x.positive y.positive) in
      let one = unsigned_abs-mul x.num (pos y.den) in
      let other = unsigned_abs-mul (neg_ℤ y.num) (pos x.den) in
      let left : unsigned_abs x.num * y.den ≤ 100000 * 1000 = mul-le-mul a d in
      let right : unsigned_abs (neg_ℤ y.num) * x.den ≤ 100000 * 1000 = mul-le-mul turned b in
      omega (arith, ints, size, one, other, left, right)

  pub later_fits : SumFits x (neg_ℚ y)
  unfolding neg_ℚ
  later_fits =
      let t = turned in
      short_fits x (neg_ℚ y) (record { num_short = omega (arith, a); den_short = omega (arith, b) }) (record { num_short = omega (arith, t); den_short = omega (arith, d) })

pub product_small : (z : ℤ) (n : ℕ) → unsigned_abs z * n < 2 ^ 110 → unsigned_abs (z *ℤ pos n) < 2 ^ 110
product_small z n h = let e = unsigned_abs-mul z (pos n) in omega (arith, e, h)

-- a time of at most so many seconds, in ticks
pub ticks_small : (x grid den : ℕ) → x ≤ 540000000 * den → grid < 2 ^ 80 → 0 < den → (x * (grid / den) < 2 ^ 110) × (grid / den < 2 ^ 80)
ticks_small x grid den h l some =
    let back : den * (grid / den) ≤ grid = mul-div-le grid den in
    let up : x * (grid / den) ≤ 540000000 * den * (grid / den) = mul-le-mul_right (grid / den) h in
    let below : grid / den ≤ grid = div-le_self grid den in
    (omega (arith, up, back, l), omega (arith, below, l))
