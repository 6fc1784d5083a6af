-- Tableaus of rows that have the same coefficients and the same goal, whatever their bounds: the same directions meet them, that is
-- the same assignments with the bounds taken 0 times.
use Rattle.std.proofs.Common.{◌≡◌, ◌↔◌, ℕ, pos}
use Rattle.rational_theory.specs.Rational.{ℚ, whole}
use Rattle.simplex_theory.specs.Tableau.{Tableau, height, width, Meets, goal_gap}

-- as many rows and places, and with the bounds taken 0 times the same assignments meet both, and the goal row says the same on them
pub record HaveSameForms (t u : Tableau) : Type 0 where
  pub rows : height t ≡ height u
  pub columns : width t ≡ width u
  pub met : (x : ℕ → ℚ) → Meets t x (whole (pos 0)) ↔ Meets u x (whole (pos 0))
  pub goal : (x : ℕ → ℚ) (y : ℚ) → Meets t x (whole (pos 0)) → goal_gap t x (whole (pos 0)) y ≡ goal_gap u x (whole (pos 0)) y
