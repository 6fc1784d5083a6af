-- The distinct shifts of a signal's allowed patterns, ranked upwards from 0.
use Rattle.std.specs.Prelude.{ℕ, List, [], ◌∷◌, length, slice_index, nat_lt, ◌==◌, if◌then◌else◌}
use Rattle.progression.specs.Street.{Street, allows}
use Rattle.progression.specs.Columns.{pattern_shift}

-- a number put into a rising list, where it is not there yet
abbrev pub put_shift : ℕ → List ℕ → List ℕ
put_shift n [] = n ∷ []
put_shift n (m ∷ ms) = if nat_lt n m then n ∷ m ∷ ms else (if n == m then m ∷ ms else m ∷ put_shift n ms)

-- with the shift of a pattern, where the signal allows it
abbrev pub with_pattern : Street → ℕ → ℕ → List ℕ → List ℕ
with_pattern a i p ms = if allows a i p then put_shift (pattern_shift a i p) ms else ms

-- the shifts of signal i, in parts
abbrev pub shifts_of : Street → ℕ → List ℕ
shifts_of a i = with_pattern a i 4 (with_pattern a i 3 (with_pattern a i 2 (with_pattern a i 1 [])))

-- the shift of a rank
abbrev pub shift_at : Street → ℕ → ℕ → ℕ
shift_at a i rank = slice_index (shifts_of a i) rank

-- how many there are
abbrev pub shift_count : Street → ℕ → ℕ
shift_count a i = length (shifts_of a i)
