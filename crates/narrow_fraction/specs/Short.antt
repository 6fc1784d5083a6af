-- Fractions of small numbers.
use Rattle.std.specs.Prelude.{◌<◌, ◌^◌, unsigned_abs}
use Rattle.rational_theory.specs.Rational.{ℚ}

-- both numbers have at most 63 bits: then each product of two of them has at most 126, and a sum of two products 127
pub record IsShort (x : ℚ) : Type 0 where
  pub num_short : unsigned_abs x.num < 2 ^ 63
  pub den_short : x.den < 2 ^ 63
