-- More lemmas beside those of `Fractions` in `specs/laws`.
use Rattle.std.proofs.Common.{◌≡◌, ℕ, zero, suc, ℤ, pos, negsuc, neg_ℤ, ◌*◌, ◌/◌, ◌<◌, refl, ◌∙◌, ap, subst, arith, unsigned_abs}
use Rattle.std.specs.Prelude.{int_div}
use Rattle.std.proofs.lemmas.Int.{ints}
use Prim.Native.Nat.{◌∣◌}
use native.Mathlib.Nat.{mul-div_cancel', dvd-mul_left, dvd_of_mul-dvd-mul_left, mul-dvd-mul_left, eq-one_of_dvd-one, pos_of_dvd_of_pos}
use Rattle.rational_theory.specs.Gcd.{gcd}
use Rattle.rational_theory.specs.laws.Coprime.{gcd-IsGcd}

-- the common divisor is above 0
pub gcd_pos : (a b : ℕ) → 0 < b → 0 < gcd a b
gcd_pos a b h = pos_of_dvd_of_pos (gcd-IsGcd a b).1 h

-- the divisor times the parts gives the numbers again
pub times_part : (a b : ℕ) → 0 < b → (gcd a b * (a / gcd a b) ≡ a) × (gcd a b * (b / gcd a b) ≡ b)
times_part a b h = (mul-div_cancel' (gcd a b) (gcd-IsGcd a b).0, mul-div_cancel' (gcd a b) (gcd-IsGcd a b).1)

-- a part is above 0
pub part_pos : (a b : ℕ) → 0 < b → 0 < b / gcd a b
part_pos a b h = pos_of_dvd_of_pos (subst (λ n. b / gcd a b ∣ n) (times_part a b h).1 (dvd-mul_left (b / gcd a b) (gcd a b))) h

-- the parts share nothing
pub parts_reduced : (a b : ℕ) → 0 < b → gcd (a / gcd a b) (b / gcd a b) ≡ 1
parts_reduced a b h =
    let g = gcd a b in
    let k = gcd (a / g) (b / g) in
    let p : g * k ∣ a = subst (λ n. g * k ∣ n) (times_part a b h).0 (mul-dvd-mul_left k g (gcd-IsGcd (a / g) (b / g)).0) in
    let q : g * k ∣ b = subst (λ n. g * k ∣ n) (times_part a b h).1 (mul-dvd-mul_left k g (gcd-IsGcd (a / g) (b / g)).1) in
    let r : g * k ∣ g * 1 = subst (λ n. g * k ∣ n) (omega arith) ((gcd-IsGcd a b).2 (g * k) p q) in
    eq-one_of_dvd-one (dvd_of_mul-dvd-mul_left k (gcd_pos a b h) r)

-- sizes of quotients
pub abs-int_div : (z : ℤ) (g : ℕ) → unsigned_abs (int_div z (pos g)) ≡ unsigned_abs z / g
abs-int_div (pos a) g = refl
abs-int_div (negsuc a) g = abs_neg (suc a / g)
  where
    abs_neg : (n : ℕ) → unsigned_abs (neg_ℤ (pos n)) ≡ n
    abs_neg zero = refl
    abs_neg (suc n) = refl

-- a quotient by the common divisor is in lowest terms
pub over_reduced : (z : ℤ) (d : ℕ) → 0 < d → gcd (unsigned_abs (int_div z (pos (gcd (unsigned_abs z) d)))) (d / gcd (unsigned_abs z) d) ≡ 1
over_reduced z d h = ap (λ n. gcd n (d / gcd (unsigned_abs z) d)) (abs-int_div z (gcd (unsigned_abs z) d)) ∙ parts_reduced (unsigned_abs z) d h

-- a negation keeps the size
pub abs-neg_ℤ : (z : ℤ) → unsigned_abs (neg_ℤ z) ≡ unsigned_abs z
abs-neg_ℤ z = omega (arith, ints)
