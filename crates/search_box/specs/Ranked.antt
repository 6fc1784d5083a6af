-- Which shifts a signal has, in words that don't say how they are ranked.
use Rattle.std.specs.Prelude.{◌≡◌, ℕ, ◌<◌, IsTrue}
use Rattle.progression.specs.Street.{Street, allows}
use Rattle.progression.specs.Columns.{pattern_shift}
use Rattle.linear_theory.specs.Shifts.{shift_at, shift_count}

-- signal i allows a pattern with this shift
abbrev pub IsShift : Street → ℕ → ℕ → Type 0
IsShift a i n = (p : ℕ) × IsTrue (allows a i p) × (pattern_shift a i p ≡ n)

-- it is that of a rank
abbrev pub HasRank : Street → ℕ → ℕ → Type 0
HasRank a i n = (rank : ℕ) × (rank < shift_count a i) × (shift_at a i rank ≡ n)
