-- A rational number is the quotient of its own numerator and denominator.
use Rattle.std.proofs.Common.{◌≡◌, ℕ, ℤ, pos, negsuc, neg_ℤ, zero, suc, ◌<◌, ◌≤◌, div-le_self, refl, ap, arith, unsigned_abs}
use Rattle.rational_theory.proofs.Integers.{up-neg, down-neg}
use Rattle.rational_theory.specs.Gcd.{gcd}
use Rattle.rational_theory.specs.laws.Fractions.{abs-int_div}
use Rattle.rational_theory.specs.Rational.{ℚ, over, neg_ℚ, quotient}
use Rattle.rational_theory.proofs.Arithmetic.{same_ratio, over_ratio, own_ratio, neg_ratio}

pub over-own : (x : ℚ) → over x.num x.den ≡ x
over-own x = same_ratio _ _ _ _ _ _ _ _ (over_ratio x.num x.den x.positive) (own_ratio x) (omega arith)

-- a fraction in lowest terms stays as it is
pub over-lowest : (z : ℤ) (d : ℕ) → 0 < d → gcd (unsigned_abs z) d ≡ 1 → ((over z d).num ≡ z) × ((over z d).den ≡ d)
over-lowest z d h r =
    let x : ℚ = record { num = z; den = d; positive = h; reduced = r } in
    let e : over z d ≡ x = over-own x in
    (ap (λ (t : ℚ). t.num) e, ap (λ (t : ℚ). t.den) e)

-- a negated numerator
pub over-neg_ℤ : (z : ℤ) (d : ℕ) → 0 < d → over (neg_ℤ z) d ≡ neg_ℚ (over z d)
over-neg_ℤ z d h = same_ratio _ _ _ _ _ _ _ _ (over_ratio (neg_ℤ z) d h) (neg_ratio _ _ _ _ (over_ratio z d h)) (simp (up-neg, down-neg) (omega arith))

pub quotient-pos : (n : ℤ) (d : ℕ) → quotient n (pos d) ≡ over n d
unfolding quotient
quotient-pos n d = refl

pub quotient-negsuc : (n : ℤ) (d : ℕ) → quotient n (negsuc d) ≡ over (neg_ℤ n) (suc d)
unfolding quotient
quotient-negsuc n d = refl

-- lowest terms are no greater
pub num_size : (z : ℤ) (d : ℕ) → 0 < d → unsigned_abs (over z d).num ≤ unsigned_abs z
unfolding over
num_size z zero h = absurd (omega arith)
num_size z (suc d) h = omega (arith, abs-int_div z (gcd (unsigned_abs z) (suc d)), div-le_self (unsigned_abs z) (gcd (unsigned_abs z) (suc d)))

pub den_size : (z : ℤ) (d : ℕ) → 0 < d → (over z d).den ≤ d
unfolding over
den_size z zero h = absurd (omega arith)
den_size z (suc d) h = div-le_self (suc d) (gcd (unsigned_abs z) (suc d))
