-- What is found in one direction on the offsets of a base, with free runs.
use Rattle.std.specs.Prelude.{◌≡◌, ℕ, ◌+◌, ◌-◌, ◌<◌, ◌≤◌, List, length, slice_index, ℤ, pos, ◌⊎◌}
use Rattle.progression.specs.Street.{Street, count, HasLink}
use Rattle.progression.specs.BaseRecord.{BaseRecord, cycle}
use Rattle.progression.specs.declared.parts.Dir.{Dir}
use Rattle.progression.specs.declared.parts.Dir.TheVariants.{Outbound, Inbound}
use Rattle.progression.specs.Lines.{RunsOn}
use Rattle.free_band.specs.Cells.{run_of}
use Rattle.free_band.specs.declared.way.FreeBand.{FreeBand}
use Rattle.free_runs.specs.Free.{with_runs, KeepsSpeeds, NoneFree}
use Rattle.free_runs.specs.Street.{AreLimits}
use Rattle.whole_offsets.specs.declared.lines.DirectionBand.{DirectionBand}

-- some run of each link is within the limits of speed
pub record HasRuns (a : Street) (grid : ℕ) : Type 0 where
  pub ordered : (d : Dir) (i least most : ℕ) → HasLink a i → AreLimits a d grid i least most → least ≤ most

-- the place in travel order from which the link leads on that stands at an index in the order of the links
abbrev pub place_of : Dir → ℕ → ℕ → ℕ
place_of Outbound n index = index
place_of Inbound n index = n - 2 - index

-- the first n runs of a band in the order of the links
pub record AreRunsOf (a : Street) (d : Dir) (f : FreeBand) (runs : List ℕ) (n : ℕ) : Type 0 where
  pub long : length runs ≡ n
  pub each : (i : ℕ) → i < n → slice_index runs i ≡ run_of f (place_of d (count a) i)

-- the least runs of the first n links
pub record AreLeast (a : Street) (grid : ℕ) (d : Dir) (runs : List ℕ) (n : ℕ) : Type 0 where
  pub long : length runs ≡ n
  pub each : (i : ℕ) → i < n → (most : ℕ) × AreLimits a d grid (i + 1) (slice_index runs i) most

abbrev pub runs_of : BaseRecord → Dir → List ℕ
runs_of t Outbound = t.run_out
runs_of t Inbound = t.run_in

-- the base with these runs in the direction, whatever runs the other has, keeps the limits of speed
abbrev pub AreKept : Street → BaseRecord → Dir → List ℕ → Type 0
AreKept a t d runs = (out back : List ℕ) → runs_of (with_runs out back t) d ≡ runs → KeepsSpeeds a (with_runs out back t) d

-- its first line has the band, and with no runs within the limits there is a wider one
pub record HasLine (a : Street) (t : BaseRecord) (d : Dir) (runs : List ℕ) (first band : ℕ) : Type 0 where
  pub green : (out back : List ℕ) → runs_of (with_runs out back t) d ≡ runs → RunsOn a (with_runs out back t) d (pos first) band
  pub widest : (out back : List ℕ) (x : ℤ) (b : ℕ) → KeepsSpeeds a (with_runs out back t) d → RunsOn a (with_runs out back t) d x b → b ≤ band

-- no line passes: the band is 0
pub record LacksLine (a : Street) (t : BaseRecord) (d : Dir) (band : ℕ) : Type 0 where
  pub none : NoneFree a t d
  pub nothing : band ≡ 0

pub record IsDirectionBand (a : Street) (t : BaseRecord) (d : Dir) (b : DirectionBand) : Type 0 where
  pub long : length b.runs.items + 1 ≡ count a
  pub kept : AreKept a t d b.runs.items
  pub first_below : b.pair.first < cycle a t
  pub band_below : b.pair.band < cycle a t
  pub line : (HasLine a t d b.runs.items b.pair.first b.pair.band × (b.lineless ≡ 0)) ⊎ (LacksLine a t d b.pair.band × (b.lineless ≡ 1))
