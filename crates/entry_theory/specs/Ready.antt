-- What an entry begins from: a tableau that was just loaded, and the basic variables of a dual feasible one with the same directions.
use Rattle.std.proofs.Common.{◌≡◌, ℕ, List, ◌+◌, ◌<◌}
use Rattle.simplex_theory.specs.Tableau.{Tableau, height, width, basic_at, standing_at, IsShaped}
use Rattle.simplex_theory.specs.DualSteps.{IsPlaced, IsDual}
use Rattle.entry_theory.specs.Directions.{HaveSameForms}
use Rattle.entry_theory.specs.Entry.{NamesBasics}

-- each slack is basic in its row, and each column stands at its place
pub record IsFresh (t : Tableau) : Type 0 where
  pub shaped : IsShaped t
  pub placed : IsPlaced t
  pub slacks : (i : ℕ) → i < height t → basic_at t i ≡ width t + i
  pub columns : (k : ℕ) → k < width t → standing_at t k ≡ k

-- a tableau that was just loaded, and a list that names the basic variables of a dual feasible one with the same coefficients and goal
pub record IsReady (vs : List ℕ) (t : Tableau) : Type 0 where
  pub fresh : IsFresh t
  pub table : Tableau
  pub dual : IsDual table
  pub names : NamesBasics vs table
  pub forms : HaveSameForms t table
