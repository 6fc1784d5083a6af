-- Numbers of at least 0 with some decimal places: rounded to the nearest, and from the midst of two upwards.
use Rattle.std.specs.Prelude.{ℕ, ◌+◌, ◌*◌, ◌/◌, ◌^◌, unsigned_abs}
use Rattle.rational_theory.specs.Rational.{ℚ}

-- the whole number that is nearest to so many times a fraction, which is that number and a half, cut
abbrev pub nearest_parts : ℕ → ℕ → ℕ → ℕ
nearest_parts top bottom parts = (2 * parts * top + bottom) / (2 * bottom)

-- how many of the units of the last decimal place a number is
abbrev pub nearest : ℚ → ℕ → ℕ
nearest x places = nearest_parts (unsigned_abs x.num) x.den (10 ^ places)
