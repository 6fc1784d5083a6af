-- A fraction of two 128-bit numbers, and the rational number that it is.
use Rattle.std.specs.Prelude.{◌≡◌, ℕ, ℤ, pos, ◌<◌, ◌<ℤ◌, ◌^◌, unsigned_abs, Bool, true, false, neg_ℤ}
use Rattle.rational_theory.specs.Gcd.{gcd}
use Rattle.rational_theory.specs.Rational.{ℚ}

-- both numbers fit 128 bits with a sign, on both sides of 0
pub record FitsFrac (x : ℚ) : Type 0 where
  pub num_fits : unsigned_abs x.num < 2 ^ 127
  pub den_fits : x.den < 2 ^ 127

-- the fields are in lowest terms
pub record IsLowest (num den : ℤ) : Type 0 where
  pub positive : pos 0 <ℤ den
  pub reduced : gcd (unsigned_abs num) (unsigned_abs den) ≡ 1
  pub num_fits : unsigned_abs num < 2 ^ 127

-- n, or -n
abbrev pub signed : Bool → ℕ → ℤ
signed true n = neg_ℤ (pos n)
signed false n = pos n
