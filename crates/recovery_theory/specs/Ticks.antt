-- From the fractions of a point to whole ticks: the columns in parts, their least common denominator, and each column's ticks.
use Rattle.std.specs.Prelude.{ℕ, zero, suc, ◌*◌, ◌==◌, List, length, slice_index_or, unsigned_abs, if◌then◌else◌}
use Rattle.rational_theory.specs.Gcd.{lcm}
use Rattle.rational_theory.specs.Rational.{ℚ, ◌*ℚ◌}
use Rattle.rational_theory.specs.Floor.{floor_ℚ}
use Rattle.progression.specs.Street.{Street, count}
use Rattle.progression.specs.Speeds.{number}
use Rattle.progression.specs.Columns.{Column}
use Rattle.linear_theory.specs.Places.{place}

-- the value in the j-th column, from 0, and its product with the number of parts
abbrev pub value_in : List ℚ → ℕ → ℚ
value_in x j = slice_index_or x j (number 0)

abbrev pub in_parts : Street → List ℚ → ℕ → ℚ
in_parts a x j = value_in x j *ℚ number a.head.parts

-- the least common denominator of the first j columns in parts
unfoldable pub common : Street → List ℚ → ℕ → ℕ
common a x zero = 1
common a x (suc j) = lcm (common a x j) (in_parts a x j).den

-- the ticks of a part: the least common denominator of all columns in parts, and 2 where that is 1
unfoldable pub unit_of : Street → List ℚ → ℕ
unit_of a x = let d = common a x (length x) in if d == 1 then 2 else d

-- the ticks of the j-th column: its value times the cycle, which is whole
unfoldable pub ticks_in : Street → List ℚ → ℕ → ℕ
ticks_in a x j = unsigned_abs (floor_ℚ (value_in x j *ℚ number (a.head.parts * unit_of a x)))

abbrev pub ticks_of : Street → List ℚ → Column → ℕ
ticks_of a x c = ticks_in a x (place (count a) c)
