-- Bland's theorem (1977) in its dual form: no two tableaus on a path of dual steps have the same basic variables.
use Rattle.std.proofs.Common.{◌≡◌, ℕ, ◌<◌}
use Rattle.simplex_theory.specs.Tableau.{Tableau, height, basic_at}

pub record IsBasic (t : Tableau) (v : ℕ) : Type 0 where
  pub row : ℕ
  pub within : row < height t
  pub is : basic_at t row ≡ v

pub record HaveSameBasics (t u : Tableau) : Type 0 where
  pub there : (v : ℕ) → IsBasic t v → IsBasic u v
  pub back : (v : ℕ) → IsBasic u v → IsBasic t v
