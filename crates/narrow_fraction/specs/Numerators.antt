-- The numerator of a number over a denominator of one's choice.
use Rattle.std.specs.Prelude.{◌≡◌, ℕ, ℤ, Option, Some, None, FitsSigned}
use Rattle.std.specs.Int.{w64}
use Rattle.rational_theory.specs.Rational.{ℚ, over}

-- n where x is n over d; none exactly where no n of 64 bits with a sign is
abbrev pub IsNumerator : ℚ → ℕ → Option ℤ → Type 0
IsNumerator x d (Some n) = x ≡ over n d
IsNumerator x d None = (n : ℤ) → FitsSigned w64 n → x ≡ over n d → ⊥
