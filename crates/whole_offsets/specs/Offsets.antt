-- The plan of given offsets: on them the widest band of each direction, with any runs within the limits of speed.
use Rattle.std.specs.Prelude.{◌≡◌, ℕ, ◌<◌, ◌≤◌, List, length, All, IsTrue, ℤ, ◌⊎◌, slice_index}
use Rattle.progression.specs.Street.{Street, count}
use Rattle.progression.specs.BaseRecord.{BaseRecord}
use Rattle.progression.specs.TimingRecord.{TimingRecord, base}
use Rattle.progression.specs.Lines.{RunsOn}
use Rattle.progression.specs.Good.{Good}
use Rattle.progression.specs.Best.{weighted_band}
use Rattle.rational_theory.specs.Rational.{◌≤ℚ◌}
use Rattle.progression.specs.declared.parts.Dir.{Dir}
use Rattle.progression.specs.declared.parts.Dir.TheVariants.{Outbound, Inbound}
use Rattle.band_measure.specs.Cut.{IsCut}
use Rattle.band_measure.specs.declared.bands.Bands.{Bands}
use Rattle.free_runs.specs.Free.{with_runs, KeepsSpeeds}
use Rattle.second_plan.specs.Grid.{on_grid, in_seconds}
use Rattle.whole_offsets.specs.Scale.{limits_pace, whole_grid, whole_unit}

-- another base with the same grid, cycle, patterns and offsets, whatever its runs
abbrev pub IsOnOffsets : BaseRecord → BaseRecord → Type 0
IsOnOffsets b s = s ≡ with_runs s.run_out s.run_in b

-- one whose runs of a direction are within the limits of speed; where pace is limited it is the plan's own
pub record IsRival (a : Street) (b : BaseRecord) (d : Dir) (s : BaseRecord) : Type 0 where
  pub offsets : IsOnOffsets b s
  pub speeds : KeepsSpeeds a s d
  pub pace : IsTrue (limits_pace a) → s ≡ b

-- the first line has a band of this width, and on no rival has any a wider one
pub record IsWidest (a : Street) (b : BaseRecord) (d : Dir) (first : ℤ) (width : ℕ) : Type 0 where
  pub runs : RunsOn a b d first width
  pub widest : (s : BaseRecord) (x : ℤ) (w : ℕ) → IsRival a b d s → RunsOn a s d x w → w ≤ width

-- on no rival is any line green all the way: the width is 0
pub record HasNoLine (a : Street) (b : BaseRecord) (d : Dir) (width : ℕ) : Type 0 where
  pub none : (s : BaseRecord) (x : ℤ) (w : ℕ) → IsRival a b d s → ¬ RunsOn a s d x w
  pub nothing : width ≡ 0

abbrev pub IsWidth : Street → BaseRecord → Dir → ℤ → ℕ → Type 0
IsWidth a b d first width = IsWidest a b d first width ⊎ HasNoLine a b d width

-- The plan of these offsets in a cycle of k seconds, with the patterns of b. Where pace is limited its base is b in k seconds.
pub record IsPlanOf (a : Street) (b : BaseRecord) (k : ℕ) (offsets : List ℕ) (p : TimingRecord) : Type 0 where
  pub on : base p ≡ on_grid (whole_grid a b) (whole_unit a b k) offsets p.run_out p.run_in b
  pub speeds : (d : Dir) → KeepsSpeeds a (base p) d
  pub pace : IsTrue (limits_pace a) → base p ≡ in_seconds a b k offsets
  pub wide : Bands
  pub outbound : IsWidth a (base p) Outbound p.first_out wide.outbound
  pub inbound : IsWidth a (base p) Inbound p.first_in wide.inbound
  pub cut : IsCut a wide (record { outbound = p.band_out; inbound = p.band_in })

-- one offset for each signal, from 0 to k - 1, and the first 0
pub record AreWithin (a : Street) (k : ℕ) (offsets : List ℕ) : Type 0 where
  pub each_has : length offsets ≡ count a
  pub below : All (λ n. n < k) offsets
  pub first : slice_index offsets 0 ≡ 0

-- No good timing with its grid, cycle, patterns and offsets has a greater weighted band, whatever its runs; where pace is limited none of its base.
abbrev pub IsBestOfRuns : Street → TimingRecord → Type 0
IsBestOfRuns a p = (s : TimingRecord) → IsOnOffsets (base p) (base s) → (IsTrue (limits_pace a) → base s ≡ base p) → Good a s → weighted_band a s ≤ℚ weighted_band a p
