-- Loading keeps each slack basic in its row and each column at its place.
use Rattle.std.proofs.Common.{◌≡◌, ℕ, length, ◌+◌, ◌<◌}
use Rattle.simplex_theory.specs.Tableau.{Tableau, height, width, basic_at, standing_at}

-- no two variables are exchanged
pub record IsUnpivoted (t : Tableau) : Type 0 where
  pub count : length t.basic ≡ height t
  pub slacks : (i : ℕ) → i < height t → basic_at t i ≡ width t + i
  pub columns : (k : ℕ) → k < width t → standing_at t k ≡ k
