-- The dual simplex method (Lemke 1954) with ties broken as Bland (1977) does: dual feasible tableaus, the dual ratio, the
-- choice of a row and a place, and what the step keeps.
use Rattle.std.proofs.Common.{◌≡◌, ℕ, pos, ◌+◌, ◌<◌, ◌≤◌}
use Rattle.rational_theory.specs.Rational.{ℚ, whole, neg_ℚ, inverse_ℚ, ◌*ℚ◌, ◌≤ℚ◌, ◌<ℚ◌}
use Rattle.simplex_theory.specs.Tableau.{Tableau, cell, goal_cell, height, width, bound, basic_at, standing_at, IsShaped}

-- each variable is in one row or at one place at most
pub record IsPlaced (t : Tableau) : Type 0 where
  pub rows : (i k : ℕ) → i < height t → k < height t → basic_at t i ≡ basic_at t k → i ≡ k
  pub places : (i k : ℕ) → i < width t → k < width t → standing_at t i ≡ standing_at t k → i ≡ k
  pub apart : (i k : ℕ) → i < height t → k < width t → basic_at t i ≡ standing_at t k → ⊥
  pub low_rows : (i : ℕ) → i < height t → basic_at t i < height t + width t
  pub low_places : (k : ℕ) → k < width t → standing_at t k < height t + width t

pub record IsDual (t : Tableau) : Type 0 where
  pub shaped : IsShaped t
  pub placed : IsPlaced t
  pub goals : (k : ℕ) → k < width t → whole (pos 0) ≤ℚ goal_cell t k

unfoldable pub ratio : Tableau → ℕ → ℕ → ℚ
ratio t r k = goal_cell t k *ℚ inverse_ℚ (neg_ℚ (cell t r k))

pub record IsChoice (t : Tableau) (r j : ℕ) : Type 0 where
  pub row : r < height t
  pub negative : bound t r <ℚ whole (pos 0)
  pub least_row : (i : ℕ) → i < height t → bound t i <ℚ whole (pos 0) → basic_at t r ≤ basic_at t i
  pub place : j < width t
  pub entering : cell t r j <ℚ whole (pos 0)
  pub least_ratio : (k : ℕ) → k < width t → cell t r k <ℚ whole (pos 0) → ratio t r j ≤ℚ ratio t r k
  pub least_place : (k : ℕ) → k < width t → cell t r k <ℚ whole (pos 0) → ratio t r j ≡ ratio t r k → standing_at t j ≤ standing_at t k
