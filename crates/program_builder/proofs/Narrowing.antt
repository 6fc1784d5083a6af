-- Operations that fit 128 bits: those with an operand 0, those with a divisor 1, and those of numbers that are small enough.
use Rattle.std.proofs.Common.{◌≡◌, ℕ, pos, ◌+ℤ◌, ◌*ℤ◌, ◌+◌, ◌*◌, ◌/◌, ◌<◌, ◌≤◌, ◌^◌, refl, sym, subst, arith, unsigned_abs, div-le_self, mul-le-mul_left, mul-le-mul_right, mul-pos}
use Rattle.std.proofs.lemmas.Int.{ints, unsigned_abs-mul}
use Rattle.rational_theory.specs.Gcd.{gcd}
use Rattle.rational_theory.specs.Rational.{ℚ, whole, neg_ℚ, ◌+ℚ◌, ◌*ℚ◌}
use Rattle.rational_theory.proofs.Arithmetic.{*ℚ-one}
use Rattle.rational_theory.proofs.Lowest.{num_size, den_size}
use Rattle.rational_theory.proofs.Ring.{zero-*ℚ}
use Rattle.narrow_fraction.specs.Fraction.{FitsFrac}
use Rattle.narrow_fraction.specs.Past128.{SumFits, Fits128}
use Rattle.narrow_fraction.specs.declared.wide.Op.TheVariants.{Sub, Mul, Div}
use Rattle.narrow_fraction.proofs.Zeros.{zero_fits, sum_with_zero}
use Rattle.program_builder.proofs.RowKinds.{IsUpTo, up_to_neg}
use Rattle.program_builder.proofs.UnitPivots.{inverse_one}

-- ---- with 1 and with 0
pub over_one_fits : (x : ℚ) → FitsFrac x → Fits128 Div x (whole (pos 1))
over_one_fits x h = rw inverse_one (rw (*ℚ-one x) h)

pub zero_times_fits : (x : ℚ) → Fits128 Mul (whole (pos 0)) x
zero_times_fits x = rw (zero-*ℚ x) zero_fits

minus_zero : neg_ℚ (whole (pos 0)) ≡ whole (pos 0)
unfolding neg_ℚ whole
minus_zero = refl

pub less_zero_fits : (x : ℚ) → FitsFrac x → Fits128 Sub x (whole (pos 0))
less_zero_fits x h = subst (SumFits x) (sym minus_zero) (sum_with_zero x h)

-- ---- with small numbers
products : (a b m n : ℕ) → a ≤ m → b ≤ n → a * b ≤ m * n
products a b m n h k = let f = mul-le-mul_right b h in let g = mul-le-mul_left m k in omega (arith, f, g)

pub up_to_fits : (n : ℕ) (x : ℚ) → IsUpTo n x → n < 2 ^ 127 → FitsFrac x
up_to_fits n x h l = record { num_fits = let k = h.num in omega arith; den_fits = let k = h.den in omega arith }

pub up_to_more : (m n : ℕ) (x : ℚ) → IsUpTo m x → m ≤ n → IsUpTo n x
up_to_more m n x h l = record { num = let k = h.num in omega arith; den = let k = h.den in omega arith }

pub up_to_times : (m n : ℕ) (x y : ℚ) → IsUpTo m x → IsUpTo n y → IsUpTo (m * n) (x *ℚ y)
unfolding ◌*ℚ◌
up_to_times m n x y h k =
    let d : 0 < x.den * y.den = mul-pos x.positive y.positive in
    let s = num_size (x.num *ℤ y.num) (x.den * y.den) d in
    let t = den_size (x.num *ℤ y.num) (x.den * y.den) d in
    let e = unsigned_abs-mul x.num y.num in
    let p = products (unsigned_abs x.num) (unsigned_abs y.num) m n h.num k.num in
    let q = products x.den y.den m n h.den k.den in
    record { num = omega (arith, s, e, p); den = omega (arith, t, q) }

sum_parts : (m n : ℕ) (x y : ℚ) → IsUpTo m x → IsUpTo n y → (unsigned_abs (x.num *ℤ pos y.den) ≤ m * n) × (unsigned_abs (y.num *ℤ pos x.den) ≤ m * n)
sum_parts m n x y h k =
    let e = unsigned_abs-mul x.num (pos y.den) in
    let f = unsigned_abs-mul y.num (pos x.den) in
    let p = products (unsigned_abs x.num) y.den m n h.num k.den in
    let q = products x.den (unsigned_abs y.num) m n h.den k.num in
    (omega (arith, e, p), omega (arith, f, q))

pub up_to_plus : (m n : ℕ) (x y : ℚ) → IsUpTo m x → IsUpTo n y → IsUpTo (2 * (m * n)) (x +ℚ y)
unfolding ◌+ℚ◌
up_to_plus m n x y h k =
    let d : 0 < x.den * y.den = mul-pos x.positive y.positive in
    let z = x.num *ℤ pos y.den +ℤ y.num *ℤ pos x.den in
    let s = num_size z (x.den * y.den) d in
    let t = den_size z (x.den * y.den) d in
    let p = sum_parts m n x y h k in
    let a = p.0 in
    let b = p.1 in
    let q = products x.den y.den m n h.den k.den in
    let r : unsigned_abs z ≤ unsigned_abs (x.num *ℤ pos y.den) + unsigned_abs (y.num *ℤ pos x.den) = omega (arith, ints) in
    record { num = omega (arith, s, r, a, b); den = omega (arith, t, q) }

pub up_to_sum_fits : (m n : ℕ) (x y : ℚ) → IsUpTo m x → IsUpTo n y → 2 * (m * n) < 2 ^ 127 → SumFits x y
up_to_sum_fits m n x y h k l =
    let g = gcd x.den y.den in
    let e = unsigned_abs-mul x.num (pos (y.den / g)) in
    let f = unsigned_abs-mul y.num (pos (x.den / g)) in
    let b : y.den / g ≤ n = (let r = div-le_self y.den g in let s = k.den in omega arith) in
    let c : x.den / g ≤ m = (let r = div-le_self x.den g in let s = h.den in omega arith) in
    let p = products (unsigned_abs x.num) (y.den / g) m n h.num b in
    let q = products (x.den / g) (unsigned_abs y.num) m n c k.num in
    let d = products x.den (y.den / g) m n h.den b in
    let r : unsigned_abs (x.num *ℤ pos (y.den / g) +ℤ y.num *ℤ pos (x.den / g)) ≤ unsigned_abs (x.num *ℤ pos (y.den / g)) + unsigned_abs (y.num *ℤ pos (x.den / g)) = omega (arith, ints) in
    record { left = omega (arith, e, p); right = omega (arith, f, q); top = omega (arith, r, e, f, p, q); bottom = omega (arith, d) }

pub up_to_less_fits : (m n : ℕ) (x y : ℚ) → IsUpTo m x → IsUpTo n y → 2 * (m * n) < 2 ^ 127 → Fits128 Sub x y
up_to_less_fits m n x y h k l = up_to_sum_fits m n x (neg_ℚ y) h (up_to_neg n y k) l

pub up_to_times_fits : (m n : ℕ) (x y : ℚ) → IsUpTo m x → IsUpTo n y → m * n < 2 ^ 127 → Fits128 Mul x y
up_to_times_fits m n x y h k l = up_to_fits (m * n) (x *ℚ y) (up_to_times m n x y h k) l
