-- Where a point is no timing: a block sum that is not whole, or a shift that is none of the box; and where the box is split then.
use Rattle.std.specs.Prelude.{ℕ, zero, suc, ◌+◌, ◌-◌, ◌==◌, ◌||◌, Bool, false, List, if◌then◌else◌}
use Rattle.std.specs.Ordering.{is_lt, eq_by_cmp}
use Rattle.rational_theory.specs.Rational.{ℚ}
use Rattle.rational_theory.specs.Compare.{cmp_ℚ}
use Rattle.progression.specs.Street.{Street, count}
use Rattle.progression.specs.Speeds.{number}
use Rattle.progression.specs.Columns.{ShiftOf}
use Rattle.linear_theory.specs.Places.{place}
use Rattle.linear_theory.specs.Shifts.{shift_at, shift_count}
use Rattle.linear_theory.specs.Boxes.{Area, turn_span}
use Rattle.recovery_theory.specs.Ticks.{in_parts}

abbrev pub is_whole_number : ℚ → Bool
is_whole_number y = y.den == 1

-- one of the n ranks of signal i from the first on has a shift of so many parts
abbrev pub has_rank : Street → ℕ → ℚ → ℕ → ℕ → Bool
has_rank a i parts first zero = false
has_rank a i parts first (suc n) = has_rank a i parts first n || eq_by_cmp cmp_ℚ (number (shift_at a i (first + n))) parts

-- the point's shift of signal i, in parts
abbrev pub shift_of : Street → List ℚ → ℕ → ℚ
shift_of a x i = in_parts a x (place (count a) (ShiftOf i))

-- it is that of one of the box's ranks
abbrev pub is_ranked : Street → Area → List ℚ → ℕ → Bool
is_ranked a box x i = let r = turn_span box i in has_rank a i (shift_of a x i) r.least (r.most + 1 - r.least)

-- the greatest of the first n ranks with a shift below so many parts, 0 where there is none
abbrev pub last_below : Street → ℕ → ℚ → ℕ → ℕ
last_below a i parts zero = 0
last_below a i parts (suc n) = if is_lt (cmp_ℚ (number (shift_at a i n)) parts) then n else last_below a i parts n

abbrev pub rank_below : Street → List ℚ → ℕ → ℕ
rank_below a x i = last_below a i (shift_of a x i) (shift_count a i)
