-- A tableau that holds rows and a goal just as they were loaded stands for them.
use Rattle.std.proofs.Common.{◌≡◌, ℕ, pos, List, [], ◌∷◌, ◌++◌, map, length, ◌+◌, ◌<◌}
use Rattle.rational_theory.specs.Rational.{ℚ, whole, neg_ℚ}
use Rattle.rational_theory.specs.Rows.{Row}
use Rattle.simplex_theory.specs.Tableau.{Tableau, line, height, width, basic_at, standing_at}
use Rattle.simplex_theory.specs.RowLists.{row_at}

-- each row has its coefficients and its bound, with its slack basic; the goal row has the goal's negated coefficients and the
-- bound 0; and each column stands at its place
pub record HoldsRows (t : Tableau) (rows : List Row) (goal : List ℚ) : Type 0 where
  pub count : length rows ≡ height t
  pub widths : (r : ℕ) → r < height t → length (row_at rows r).coefs ≡ width t
  pub lines : (r : ℕ) → r < height t → line t r ≡ (row_at rows r).coefs ++ (row_at rows r).bound ∷ []
  pub basics : length t.basic ≡ height t
  pub slacks : (r : ℕ) → r < height t → basic_at t r ≡ width t + r
  pub columns : (k : ℕ) → k < width t → standing_at t k ≡ k
  pub goal_width : length goal ≡ width t
  pub goal_row : t.goal ≡ map neg_ℚ goal ++ whole (pos 0) ∷ []
