-- Differences of fractions.
use Rattle.std.proofs.Common.{◌≡◌, arith}
use Rattle.rational_theory.specs.Rational.{ℚ, neg_ℚ, ◌-ℚ◌}
use Rattle.rational_theory.proofs.Arithmetic.{own_ratio, neg_ratio, sum_ratio, same_ratio}

-- the other way round
pub turned : (x y : ℚ) → neg_ℚ (x -ℚ y) ≡ y -ℚ x
turned x y =
    same_ratio _ _ _ _ _ _ _ _ (neg_ratio _ _ _ _ (sum_ratio x _ _ _ _ _ _ _ (own_ratio x) (neg_ratio y _ _ _ (own_ratio y))))
    (sum_ratio y _ _ _ _ _ _ _ (own_ratio y) (neg_ratio x _ _ _ (own_ratio x)))
    (omega arith)
