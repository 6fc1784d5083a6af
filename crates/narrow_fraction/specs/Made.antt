-- What becomes of two numbers that are to make a fraction.
use Rattle.std.specs.Prelude.{◌≡◌, ℤ, pos, Result, Ok, Err}
use Rattle.rational_theory.specs.Rational.{ℚ, quotient}
use Rattle.narrow_fraction.specs.Fraction.{FitsFrac}
use Rattle.narrow_fraction.specs.declared.unfit.Unfit.{Unfit}
use Rattle.narrow_fraction.specs.declared.unfit.Unfit.TheVariants.{ZeroDen, Width}

-- the quotient in lowest terms; `ZeroDen` exactly where the divisor is 0, `Width` exactly where the quotient does not fit
abbrev pub IsMade : ℤ → ℤ → Result ℚ Unfit → Type 0
IsMade num den (Ok x) = (den ≡ pos 0 → ⊥) × FitsFrac (quotient num den) × (x ≡ quotient num den)
IsMade num den (Err ZeroDen) = den ≡ pos 0
IsMade num den (Err Width) = (den ≡ pos 0 → ⊥) × (FitsFrac (quotient num den) → ⊥)
