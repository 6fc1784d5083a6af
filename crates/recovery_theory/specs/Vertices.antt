-- Vertices of a box: points that meet the box's rows.
use Rattle.std.specs.Prelude.{◌≡◌, ◌<◌, ◌≤◌, ℕ, List, length, ℤ}
use Rattle.rational_theory.specs.Rational.{ℚ, whole}
use Rattle.rational_theory.specs.Rows.{dot, IsMet, AllNonNegative}
use Rattle.progression.specs.Street.{Street, count, HasSignal, HasLink}
use Rattle.progression.specs.Speeds.{number}
use Rattle.progression.specs.Columns.{ShiftOf}
use Rattle.linear_theory.specs.Places.{place, width}
use Rattle.linear_theory.specs.Shifts.{shift_at, shift_count}
use Rattle.linear_theory.specs.Blocks.{block_sum}
use Rattle.linear_theory.specs.Boxes.{Area}
use Rattle.linear_theory.specs.Rows.{line, goal_form}
use Rattle.linear_theory.specs.Names.{Name, HasRow, form_of}
use Rattle.recovery_theory.specs.Ticks.{in_parts}

-- a value for each column, none below 0, which meet each row that the artery has for the box
pub record IsVertex (a : Street) (box : Area) (x : List ℚ) : Type 0 where
  pub columns : length x ≡ width (count a)
  pub not_negative : AllNonNegative x
  pub rows : (n : Name) → HasRow a n → IsMet x (line a (form_of a box n))

-- the same, with values for further columns maybe, of which no row speaks
pub record IsLongVertex (a : Street) (box : Area) (x : List ℚ) : Type 0 where
  pub columns : width (count a) ≤ length x
  pub not_negative : AllNonNegative x
  pub rows : (n : Name) → HasRow a n → IsMet x (line a (form_of a box n))

-- the weighted band at a point
abbrev pub goal_at : Street → List ℚ → ℚ
goal_at a x = dot (line a (goal_form a)).coefs x

-- each block sum is whole, and each shift is one of the signal's
pub record HasWholeBlock (a : Street) (x : List ℚ) (i : ℕ) : Type 0 where
  pub turns : ℤ
  pub is : block_sum a x i ≡ whole turns

pub record HasRankedShift (a : Street) (x : List ℚ) (i : ℕ) : Type 0 where
  pub rank : ℕ
  pub there : rank < shift_count a i
  pub is : in_parts a x (place (count a) (ShiftOf i)) ≡ number (shift_at a i rank)

pub record IsWhole (a : Street) (x : List ℚ) : Type 0 where
  pub blocks : (i : ℕ) → HasLink a i → HasWholeBlock a x i
  pub shifts : (i : ℕ) → HasSignal a i → HasRankedShift a x i
