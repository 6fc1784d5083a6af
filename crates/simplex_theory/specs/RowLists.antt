-- Rows and a goal as lists of coefficients: the system that they are, and what a tableau that stands for it says of them.
use Rattle.std.proofs.Common.{◌≡◌, ℕ, zero, suc, pos, List, [], ◌∷◌, length, get_or, ◌<◌, ◌≤◌}
use Rattle.rational_theory.specs.Rational.{ℚ, whole}
use Rattle.rational_theory.specs.Rows.{Row, dot, AllMet, AllNonNegative}
use Rattle.simplex_theory.specs.Tableau.{Tableau, height, width, goal_bound}
use Rattle.simplex_theory.specs.Vertices.{vertex}
use Rattle.simplex_theory.specs.Multipliers.{System, StandsFor}

abbrev pub row_at : List Row → ℕ → Row
row_at rows r = get_or rows r (record { coefs = []; bound = whole (pos 0) })

-- the coefficient of a column, 0 after the last
abbrev pub coef_at : Row → ℕ → ℚ
coef_at row c = get_or row.coefs c (whole (pos 0))

-- the rows numbered as they stand in the list, and the goal
abbrev pub system_of : List Row → List ℚ → System
system_of rows goal = record { coef = λ r c. coef_at (row_at rows r) c; limit = λ r. (row_at rows r).bound; goal = λ c. get_or goal c (whole (pos 0)) }

-- no row has more than w coefficients, and there are m rows
pub record HasShape (rows : List Row) (goal : List ℚ) (m w : ℕ) : Type 0 where
  pub count : length rows ≡ m
  pub coefs : (r : ℕ) → r < m → length (row_at rows r).coefs ≤ w
  pub goals : length goal ≤ w

-- the tableau says of all variables what these rows say of the columns and their slacks, and its goal row gives the goal
pub record StandsForRows (t : Tableau) (rows : List Row) (goal : List ℚ) : Type 0 where
  pub shape : HasShape rows goal (height t) (width t)
  pub stands : StandsFor t (system_of rows goal)

-- the values of the columns below n
abbrev pub columns_from : (ℕ → ℚ) → ℕ → ℕ → List ℚ
columns_from f c zero = []
columns_from f c (suc n) = f c ∷ columns_from f (suc c) n

-- the vertex: each basic column has its row's bound, and every other 0
unfoldable pub vertex_point : Tableau → List ℚ
vertex_point t = columns_from (vertex t) 0 (width t)

-- a point with no negative value that meets every row, and whose goal is the goal row's bound
pub record IsOptimalPoint (t : Tableau) (rows : List Row) (goal point : List ℚ) : Type 0 where
  pub not_negative : AllNonNegative point
  pub met : AllMet point rows
  pub goal_value : dot goal point ≡ goal_bound t
