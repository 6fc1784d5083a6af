-- When an operation on two fractions leaves 128 bits: a number of more than 2^127 - 1 in size would be needed.
use Rattle.std.specs.Prelude.{pos, ◌+ℤ◌, ◌*ℤ◌, ◌*◌, ◌/◌, ◌<◌, ◌^◌, unsigned_abs}
use Rattle.std.proofs.Common.{Bool, Option, ltb, not, ◌&&◌}
use Rattle.rational_theory.specs.Gcd.{gcd}
use Rattle.rational_theory.specs.Rational.{ℚ, neg_ℚ, ◌*ℚ◌, ◌/ℚ◌}
use Rattle.narrow_fraction.specs.Fraction.{FitsFrac}
use Rattle.narrow_fraction.specs.Attempt.{refusal_if}
use Rattle.narrow_fraction.specs.declared.wide.Op.{Op}
use Rattle.narrow_fraction.specs.declared.wide.Op.TheVariants.{Add, Sub, Mul, Div}
use Rattle.narrow_fraction.specs.declared.wide.Wide.{Wide}

-- a sum over the least common denominator: both numerators over it, their sum, and itself
pub record SumFits (x y : ℚ) : Type 0 where
  pub left : unsigned_abs (x.num *ℤ pos (y.den / gcd x.den y.den)) < 2 ^ 127
  pub right : unsigned_abs (y.num *ℤ pos (x.den / gcd x.den y.den)) < 2 ^ 127
  pub top : unsigned_abs (x.num *ℤ pos (y.den / gcd x.den y.den) +ℤ y.num *ℤ pos (x.den / gcd x.den y.den)) < 2 ^ 127
  pub bottom : x.den * (y.den / gcd x.den y.den) < 2 ^ 127

-- sums and differences by their steps (a difference adds the number on the other side of 0, whose sizes are the same);
-- products and quotients by the exact result in lowest terms
abbrev pub Fits128 : Op → ℚ → ℚ → Type 0
Fits128 Add x y = SumFits x y
Fits128 Sub x y = SumFits x (neg_ℚ y)
Fits128 Mul x y = FitsFrac (x *ℚ y)
Fits128 Div x y = FitsFrac (x /ℚ y)

abbrev pub Past128 : Op → ℚ → ℚ → Type 0
Past128 op x y = Fits128 op x y → ⊥

-- ---- the same as a test, for refusals that are told in order
unfoldable pub fits : ℚ → Bool
fits x = ltb (unsigned_abs x.num) (2 ^ 127) && ltb x.den (2 ^ 127)

unfoldable pub steps_fit : ℚ → ℚ → Bool
steps_fit x y =
    (ltb (unsigned_abs (x.num *ℤ pos (y.den / gcd x.den y.den))) (2 ^ 127) && ltb (unsigned_abs (y.num *ℤ pos (x.den / gcd x.den y.den))) (2 ^ 127))
    && (ltb (unsigned_abs (x.num *ℤ pos (y.den / gcd x.den y.den) +ℤ y.num *ℤ pos (x.den / gcd x.den y.den))) (2 ^ 127) && ltb (x.den * (y.den / gcd x.den y.den)) (2 ^ 127))

unfoldable pub is_past : Op → ℚ → ℚ → Bool
is_past Add x y = not (steps_fit x y)
is_past Sub x y = not (steps_fit x (neg_ℚ y))
is_past Mul x y = not (fits (x *ℚ y))
is_past Div x y = not (fits (x /ℚ y))

-- the refusal of an operation
unfoldable pub past_wide : Op → ℚ → ℚ → Option Wide
past_wide op x y = refusal_if (is_past op x y) (record { op = op; left = x; right = y })
