-- Which quotients of two natural numbers are in lowest terms.
use Rattle.std.proofs.Common.{◌≡◌, ℕ, zero, suc, pos, neg_ℤ, true, ap₂, ◌*◌, ◌/◌, ◌<◌, ◌≤◌, ◌∙◌, sym, ap, refl, arith, unsigned_abs}
use native.Mathlib.Nat.{mul-le-mul_right}
use Rattle.rational_theory.specs.Gcd.{gcd}
use Rattle.rational_theory.specs.laws.Fractions.{times_part}
use Rattle.rational_theory.specs.Rational.{ℚ, over, neg_ℚ}
use Rattle.rational_theory.proofs.Lowest.{over-lowest}
use Rattle.quantity_text.specs.Exact.{HasParts}

-- a quotient whose denominator stays is in lowest terms
stays_lowest : (g bottom : ℕ) → 0 < bottom → g * (bottom / g) ≡ bottom → bottom / g ≡ bottom → g ≡ 1
stays_lowest zero bottom h e f = absurd (omega (arith, e))
stays_lowest (suc zero) bottom h e f = refl
stays_lowest (suc (suc g)) bottom h e f =
    let k : suc (suc g) * bottom ≡ bottom = rw f at e in
    let l : 2 * bottom ≤ suc (suc g) * bottom = mul-le-mul_right bottom (omega arith) in
    absurd (omega (arith, k, l))

-- so the two numbers have no common divisor
gcd_of_lowest : (top bottom : ℕ) → 0 < bottom → (over (pos top) bottom).den ≡ bottom → gcd top bottom ≡ 1
unfolding over
gcd_of_lowest top zero h e = absurd (omega arith)
gcd_of_lowest top (suc d) h e = stays_lowest (gcd top (suc d)) (suc d) h (times_part top (suc d) h).1 e

-- and the numerator stays too
pub num_of_lowest : (top bottom : ℕ) → 0 < bottom → (over (pos top) bottom).den ≡ bottom → (over (pos top) bottom).num ≡ pos top
num_of_lowest top bottom h e = (over-lowest (pos top) bottom h (gcd_of_lowest top bottom h e)).0

-- the parts of a rational number are in lowest terms
pub den_of_parts : (x : ℚ) (top bottom : ℕ) → unsigned_abs x.num ≡ top → x.den ≡ bottom → 0 < bottom → (over (pos top) bottom).den ≡ bottom
den_of_parts x top bottom e f h = (over-lowest (pos top) bottom h (sym (ap₂ gcd e f) ∙ x.reduced)).1

-- the parts of a number with a minus
pub minus_parts : (x : ℚ) (top bottom : ℕ) → x.num ≡ pos top → x.den ≡ bottom → 0 < top → HasParts (neg_ℚ x) true top bottom
unfolding neg_ℚ
minus_parts x top bottom e f h = record { num_is = ap neg_ℤ e; den_is = f; no_minus_zero = λ n. h }
