-- What the sign and the size of a numerator say of the number.
use Rattle.std.specs.Prelude.{◌≡◌, ℕ, ℤ, pos, negsuc, Bool, true, IsTrue, ◌↔◌, ◌<ℤ◌, unsigned_abs, int_lt, nat_eq}
use Rattle.std.proofs.Common.{refl, sym, ap, ◌∙◌, arith}
use Rattle.std.proofs.lemmas.Bool.{eqb-true, ltb-true}
use Rattle.std.proofs.lemmas.Int.{ints}
use Rattle.rational_theory.specs.Rational.{ℚ, whole, ◌<ℚ◌}
use Rattle.rational_theory.proofs.Order.{zero_num}

-- the size is 0 exactly at 0
pub zero_by_size : (x : ℚ) (n : ℕ) (b : Bool) → n ≡ unsigned_abs x.num → b ≡ nat_eq n 0 → IsTrue b ↔ (x ≡ whole (pos 0))
unfolding whole
zero_by_size x n b e f = (
  λ t. zero_num x (omega (arith, ints, eqb-true n 0 (sym f ∙ t), e)),
  λ h. f ∙ ap (λ m. nat_eq m 0) (e ∙ ap (λ (t : ℚ). unsigned_abs t.num) h),
)

below_zero : (z : ℤ) → int_lt z (pos 0) ≡ true → z <ℤ pos 0
below_zero (pos n) e = absurd (omega (arith, ltb-true n 0 e))
below_zero (negsuc n) e = omega (arith, ints)

is_below : (z : ℤ) → z <ℤ pos 0 → int_lt z (pos 0) ≡ true
is_below (pos n) h = absurd (omega (arith, ints))
is_below (negsuc n) h = refl

-- the sign is that of the number
pub negative_by_sign : (x : ℚ) (b : Bool) → b ≡ int_lt x.num (pos 0) → IsTrue b ↔ (x <ℚ whole (pos 0))
unfolding whole
negative_by_sign x b e = (
  λ t. record { cross = omega (arith, ints, below_zero x.num (sym e ∙ t)) },
  λ h. e ∙ is_below x.num (omega (arith, ints, h.cross, x.positive)),
)
