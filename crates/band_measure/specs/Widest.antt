-- The widest band on given offsets, over all finer grids.
use Rattle.std.specs.Prelude.{◌≡◌, ℕ, ◌*◌, ◌<◌, ◌≤◌, ℤ, pos, Option, MatchOption}
use Rattle.progression.specs.Street.{Street}
use Rattle.progression.specs.BaseRecord.{BaseRecord, cycle}
use Rattle.progression.specs.declared.parts.Dir.{Dir}
use Rattle.artery_model.specs.Valid.{IsValid}
use Rattle.time_space.specs.Finer.{finer_base}
use Rattle.progression.specs.Lines.{RunsOn}
use Rattle.band_measure.specs.declared.pair.Widest.{Widest}

-- No pair runs, however fine the grid.
abbrev pub NoneRuns : Street → BaseRecord → Dir → Type 0
NoneRuns a t d = (m : ℕ) (x : ℤ) (b : ℕ) → 1 ≤ m → ¬ RunsOn a (finer_base m t) d x b

-- The pair runs, no pair on a finer grid is wider, and no lesser first has the band.
pub record IsWidest (a : Street) (t : BaseRecord) (d : Dir) (first band : ℕ) : Type 0 where
  pub runs : RunsOn a t d (pos first) band
  pub below : first < cycle a t
  pub widest : (m : ℕ) (x : ℤ) (b : ℕ) → 1 ≤ m → RunsOn a (finer_base m t) d x b → b ≤ m * band
  pub least : (x : ℕ) → RunsOn a t d (pos x) band → first ≤ x

-- the widest pair of a direction, or that none runs
abbrev pub IsWidestBand : Street → BaseRecord → Dir → Option Widest → Type 0
IsWidestBand a t d found = MatchOption found (NoneRuns a t d) (λ (w : Widest). IsWidest a t d w.first w.band)

-- At most one pair is the widest.
abbrev pub OneWidest : Type 0
OneWidest = (a : Street) (t : BaseRecord) (d : Dir) (first band other_first other_band : ℕ) → IsValid a → 2 ≤ t.unit
    → IsWidest a t d first band → IsWidest a t d other_first other_band → (first ≡ other_first) × (band ≡ other_band)
