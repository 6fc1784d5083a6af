-- A rational number of at least 0 with so many decimal places: cut there, never rounded.
use Rattle.std.specs.Prelude.{ℕ, zero, suc, pos, unsigned_abs, ◌+◌, ◌/◌, ◌%◌, ◌^◌, List, [], ◌∷◌, ◌++◌}
use Rattle.std.specs.Fmt.{decimal}
use Rattle.rational_theory.specs.Rational.{ℚ, whole, ◌*ℚ◌}
use Rattle.rational_theory.specs.Floor.{floor_ℚ}

-- the last k decimal digits of n, with zeros in front where it has fewer
abbrev pub last_digits : ℕ → ℕ → List ℕ
last_digits zero n = []
last_digits (suc k) n = last_digits k (n / 10) ++ (48 + n % 10) ∷ []

-- the floor of x * 10 ^ places
abbrev pub scaled : ℚ → ℕ → ℕ
scaled x places = unsigned_abs (floor_ℚ (x *ℚ whole (pos (10 ^ places))))

-- a point, the byte 46, stands before the last `places` digits
abbrev pub decimal_spelling : ℚ → ℕ → List ℕ
decimal_spelling x places = decimal (scaled x places / 10 ^ places) ++ 46 ∷ last_digits places (scaled x places)
