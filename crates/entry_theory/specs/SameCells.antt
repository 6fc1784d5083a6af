-- Tableaus that differ in their bounds alone, those of the rows and that of the goal row.
use Rattle.std.proofs.Common.{◌≡◌, ℕ, ◌<◌}
use Rattle.simplex_theory.specs.Tableau.{Tableau, cell, goal_cell, height, width}

-- all else is the same
pub record HaveSameCells (t u : Tableau) : Type 0 where
  pub rows : height t ≡ height u
  pub basic : t.basic ≡ u.basic
  pub standing : t.standing ≡ u.standing
  pub cells : (i k : ℕ) → i < height t → k < width t → cell t i k ≡ cell u i k
  pub goals : (k : ℕ) → k < width t → goal_cell t k ≡ goal_cell u k
