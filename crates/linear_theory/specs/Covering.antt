-- What a row must be to bound a goal at every point, as the weighted band, or to be met by no point, as that of a good timing.
use Rattle.std.specs.Prelude.{ℕ, ◌<◌, slice_index_or, List}
use Rattle.rational_theory.specs.Rational.{ℚ, ◌≤ℚ◌, ◌<ℚ◌}
use Rattle.rational_theory.specs.Rows as maths
use Rattle.progression.specs.Street.{Street, count}
use Rattle.progression.specs.Speeds.{number}
use Rattle.linear_theory.specs.Places.{width}
use Rattle.linear_theory.specs.Rows.{line, goal_form}

-- the number in the column at place j, from 0
abbrev pub coef : List ℚ → ℕ → ℚ
coef xs j = slice_index_or xs j (number 0)

-- each coefficient is at least the goal's, and the bound is at most the value
pub record CoversColumns (width : ℕ) (goal : List ℚ) (value : ℚ) (r : maths.Row) : Type 0 where
  pub coefs : (j : ℕ) → j < width → coef goal j ≤ℚ coef r.coefs j
  pub bound : r.bound ≤ℚ value

-- no coefficient is negative, and the bound is
pub record RefutesColumns (width : ℕ) (r : maths.Row) : Type 0 where
  pub coefs : (j : ℕ) → j < width → number 0 ≤ℚ coef r.coefs j
  pub bound : r.bound <ℚ number 0

-- of an artery's columns, and of the weighted band as the goal
abbrev pub CoversGoal : Street → ℚ → maths.Row → Type 0
CoversGoal a value r = CoversColumns (width (count a)) (line a (goal_form a)).coefs value r

abbrev pub RefutesAll : Street → maths.Row → Type 0
RefutesAll a r = RefutesColumns (width (count a)) r
