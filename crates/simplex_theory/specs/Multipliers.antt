-- Farkas multipliers: what a tableau's goal row, or one of its rows, weighs the named rows by, and what the weighted sum is.
use Rattle.std.proofs.Common.{◌≡◌, ◌↔◌, ℕ, pos, cond, eqb, ◌+◌, ◌<◌}
use Rattle.rational_theory.specs.Rational.{ℚ, whole, ◌+ℚ◌, ◌*ℚ◌}
use Rattle.simplex_theory.specs.Tableau.{Tableau, line, height, width, basic_at, Meets, goal_gap}
use Rattle.simplex_theory.specs.Totals.{total, cell_of}

-- named rows `sum over c of a r c * x c is at most b r`, and the goal
pub record System : Type 0 where
  pub coef : ℕ → ℕ → ℚ
  pub limit : ℕ → ℚ
  pub goal : ℕ → ℚ

-- x meets the rows with their slacks, the bounds being taken z times
pub record Fills (s : System) (w m : ℕ) (x : ℕ → ℚ) (z : ℚ) : Type 0 where
  pub fills : (r : ℕ) → r < m → total (λ c. s.coef r c *ℚ x c) w +ℚ x (w + r) ≡ s.limit r *ℚ z

pub record StandsFor (t : Tableau) (s : System) : Type 0 where
  pub rows : (x : ℕ → ℚ) (z : ℚ) → Meets t x z ↔ Fills s (width t) (height t) x z
  pub goals : (x : ℕ → ℚ) (z : ℚ) → Meets t x z → goal_gap t x z (total (λ c. s.goal c *ℚ x c) (width t)) ≡ whole (pos 0)

-- ---- the goal row's multipliers: its cells at the variables
unfoldable pub goal_weight : Tableau → ℕ → ℚ
goal_weight t v = cell_of t.goal t.standing v

-- ---- a row's multipliers: its cells, and 1 for its own variable
unfoldable pub row_weight : Tableau → ℕ → ℕ → ℚ
row_weight t i v = cond (eqb v (basic_at t i)) (whole (pos 1)) (cell_of (line t i) t.standing v)
