-- What makes a fraction reduced.
use Rattle.std.proofs.Common.{◌≡◌, ℕ, suc, ℤ, pos, negsuc, ◌*ℤ◌, neg_ℤ, ◌*◌, ◌/◌, ◌%◌, ◌<◌, ◌∙◌, ap, subst, unsigned_abs, mul_comm}
use Rattle.std.specs.Int.{IsGcd}
use Rattle.std.specs.Prelude.{int_div}
use Rattle.std.proofs.lemmas.Nat.Gcd.{same_from_IsGcd, IsGcd-from_mod, IsGcd-from_zero, IsGcd-swap}
use Prim.Native.Nat.{◌∣◌}
use native.Mathlib.Nat.{dvd-mul_left, pos_of_dvd_of_pos, one-dvd, dvd_refl}
use Rattle.rational_theory.specs.Gcd.{gcd}
use Rattle.rational_theory.specs.laws.Coprime.{gcd-IsGcd}
use Rattle.rational_theory.proofs.Integers.{neg_ℤ-*ℤ}
use Rattle.std.proofs.Math.IntN.{*ℤ_comm}
use Rattle.rational_theory.specs.laws.Fractions.{times_part}

-- there is only one greatest common divisor
pub gcd-is : (a b g : ℕ) → IsGcd a b g → gcd a b ≡ g
gcd-is a b g h = same_from_IsGcd a b (gcd a b) g (gcd-IsGcd a b) h

-- coprime numbers, as a relation
pub IsGcd-one : (a b : ℕ) → gcd a b ≡ 1 → IsGcd a b 1
IsGcd-one a b e = subst (λ g. IsGcd a b g) e (gcd-IsGcd a b)

-- an exact quotient times its divisor
pub times-int_div : (z : ℤ) (g : ℕ) → g * (unsigned_abs z / g) ≡ unsigned_abs z → pos g *ℤ int_div z (pos g) ≡ z
times-int_div (pos a) g e = ap pos e
times-int_div (negsuc a) g e = *ℤ_comm (pos g) (neg_ℤ (pos (suc a / g))) ∙ neg_ℤ-*ℤ (pos (suc a / g)) (pos g) ∙ ap (λ n. neg_ℤ (pos n)) (mul_comm (suc a / g) g ∙ e)

-- one of Euclid's steps
pub gcd-step : (a b : ℕ) → gcd a b ≡ gcd b (a % b)
gcd-step a b = gcd-is a b (gcd b (a % b)) (IsGcd-from_mod a b (gcd b (a % b)) (gcd-IsGcd b (a % b)))

-- the last step
pub gcd-zero : (a b : ℕ) → b ≡ 0 → gcd a b ≡ a
gcd-zero a b e = gcd-is a b a (IsGcd-from_zero a b e)

-- the first part is above 0, where the first number is
pub first_part_pos : (a b : ℕ) → 0 < a → 0 < b → 0 < a / gcd a b
first_part_pos a b h k = pos_of_dvd_of_pos (subst (λ n. a / gcd a b ∣ n) (times_part a b k).0 (dvd-mul_left (a / gcd a b) (gcd a b))) h

-- the order of the numbers does not matter
pub gcd_comm : (a b : ℕ) → gcd a b ≡ gcd b a
gcd_comm a b = gcd-is a b (gcd b a) (IsGcd-swap b a (gcd b a) (gcd-IsGcd b a))

-- nothing above 1 divides 1
pub gcd-one : (a : ℕ) → gcd a 1 ≡ 1
gcd-one a = gcd-is a 1 1 (one-dvd a, dvd_refl 1, λ e p q. q)

pub one-gcd : (b : ℕ) → gcd 1 b ≡ 1
one-gcd b = gcd_comm 1 b ∙ gcd-one b

-- a number and itself
pub gcd-self : (a : ℕ) → gcd a a ≡ a
gcd-self a = gcd-is a a a (dvd_refl a, dvd_refl a, λ e p q. p)
