-- How a quotient is held.
use Rattle.std.specs.Prelude.{◌≡◌, ℤ, pos, ◌<◌, ◌<ℤ◌, ◌^◌, unsigned_abs, FitsSigned}
use Rattle.std.specs.Int.{w64}
use Rattle.rational_theory.specs.Gcd.{gcd}

-- two numbers that fit: in lowest terms, where the denominator is above 0; else words, over the denominator without its sign
pub record IsHeld (num den : ℤ) : Type 0 where
  pub above : 0 < unsigned_abs den
  pub num_fits : unsigned_abs num < 2 ^ 127
  pub den_fits : unsigned_abs den < 2 ^ 127
  pub lowest : pos 0 <ℤ den → gcd (unsigned_abs num) (unsigned_abs den) ≡ 1
  pub word : den <ℤ pos 0 → FitsSigned w64 num
