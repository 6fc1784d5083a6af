-- The rational numbers: a numerator and a positive denominator with no common divisor, so that `≡` is their equality.
use Rattle.std.specs.Prelude.{◌≡◌, ℕ, zero, suc, ℤ, pos, negsuc, ◌+ℤ◌, ◌*ℤ◌, neg_ℤ, ◌≤ℤ◌, ◌<ℤ◌, ◌*◌, ◌/◌, ◌<◌, unsigned_abs, int_div, int_lt, if◌then◌else◌}
use Rattle.std.proofs.Common.{refl, zero-lt-suc, ◌∙◌, ap}
use Rattle.rational_theory.specs.Gcd.{gcd}
use Rattle.rational_theory.specs.laws.Fractions.{part_pos, over_reduced, abs-neg_ℤ}

pub record ℚ : Type 0 where
  pub num : ℤ
  pub den : ℕ
  pub positive : 0 < den
  pub reduced : gcd (unsigned_abs num) den ≡ 1

-- the whole number z
unfoldable pub whole : ℤ → ℚ
unfolding gcd
whole z = record { num = z; den = 1; positive = zero-lt-suc 0; reduced = refl }

-- z over d, in lowest terms
unfoldable pub over : ℤ → ℕ → ℚ
over z zero = whole (pos 0)
over z (suc d) = record {
  num = int_div z (pos (gcd (unsigned_abs z) (suc d)));
  den = suc d / gcd (unsigned_abs z) (suc d);
  positive = part_pos (unsigned_abs z) (suc d) (zero-lt-suc d);
  reduced = over_reduced z (suc d) (zero-lt-suc d);
}

-- n over d, for any two signs; 0 where d is 0
unfoldable pub quotient : ℤ → ℤ → ℚ
quotient n (pos d) = over n d
quotient n (negsuc d) = over (neg_ℤ n) (suc d)

infixl 65 ◌+ℚ◌
unfoldable pub ◌+ℚ◌ : ℚ → ℚ → ℚ
x +ℚ y = over (x.num *ℤ pos y.den +ℤ y.num *ℤ pos x.den) (x.den * y.den)

infixl 70 ◌*ℚ◌
unfoldable pub ◌*ℚ◌ : ℚ → ℚ → ℚ
x *ℚ y = over (x.num *ℤ y.num) (x.den * y.den)

unfoldable pub neg_ℚ : ℚ → ℚ
neg_ℚ x = record { num = neg_ℤ x.num; den = x.den; positive = x.positive; reduced = ap (λ n. gcd n x.den) (abs-neg_ℤ x.num) ∙ x.reduced }

-- d over z, and 0 where z is 0
abbrev pub turned : ℤ → ℕ → ℚ
turned (pos a) d = over (pos d) a
turned (negsuc a) d = over (neg_ℤ (pos d)) (suc a)

-- one over x, and 0 at 0
unfoldable pub inverse_ℚ : ℚ → ℚ
inverse_ℚ x = turned x.num x.den

-- a difference, and a quotient (0 where y is 0): mere names, so that the laws of sums and products serve for them
infixl 65 ◌-ℚ◌
abbrev pub ◌-ℚ◌ : ℚ → ℚ → ℚ
x -ℚ y = x +ℚ neg_ℚ y

infixl 70 ◌/ℚ◌
abbrev pub ◌/ℚ◌ : ℚ → ℚ → ℚ
x /ℚ y = x *ℚ inverse_ℚ y

infix 50 ◌≤ℚ◌ ◌<ℚ◌
pub record ◌≤ℚ◌ (x y : ℚ) : Type 0 where
  pub cross : (x.num *ℤ pos y.den) ≤ℤ (y.num *ℤ pos x.den)

pub record ◌<ℚ◌ (x y : ℚ) : Type 0 where
  pub cross : (x.num *ℤ pos y.den) <ℤ (y.num *ℤ pos x.den)

-- x, or its negation where it is below 0
unfoldable pub abs_ℚ : ℚ → ℚ
abs_ℚ x = if int_lt x.num (pos 0) then neg_ℚ x else x
