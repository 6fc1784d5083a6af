-- The widest band of a direction on given offsets, whatever runs the speeds allow.
use Rattle.std.specs.Prelude.{◌≡◌, ℕ, ◌+◌, ◌*◌, ◌<◌, ◌≤◌, List, ℤ, pos}
use Rattle.rational_theory.specs.Rational.{◌*ℚ◌}
use Rattle.progression.specs.Street.{Street, count, HasLink}
use Rattle.progression.specs.Speeds.{number, run_low, run_high}
use Rattle.progression.specs.BaseRecord.{BaseRecord, run}
use Rattle.progression.specs.Lines.{leg, RunsOn}
use Rattle.progression.specs.declared.parts.Dir.{Dir}
use Rattle.time_space.specs.Finer.{finer_base}
use Rattle.time_space.specs.LinkRules.{AllLinks}
use Rattle.time_space.specs.declared.links.LinkRule.TheVariants as rule
use Rattle.free_band.specs.Cells.{run_of}
use Rattle.free_band.specs.declared.way.FreeBand.{FreeBand}

-- the base with other runs
abbrev pub with_runs : List ℕ → List ℕ → BaseRecord → BaseRecord
with_runs run_out run_in t = record t { run_out = run_out; run_in = run_in }

-- the runs of a direction keep the limits of speed
pub record KeepsSpeeds (a : Street) (t : BaseRecord) (d : Dir) : Type 0 where
  pub fast : AllLinks a t rule.Fast d
  pub slow : AllLinks a t rule.Slow d

-- With no runs that keep the limits of speed any line is green all the way.
abbrev pub NoneFree : Street → BaseRecord → Dir → Type 0
NoneFree a t d = (run_out run_in : List ℕ) (x : ℤ) (b : ℕ) → KeepsSpeeds a (with_runs run_out run_in t) d → ¬ RunsOn a (with_runs run_out run_in t) d x b

-- the base has the runs of the band
abbrev pub TakesRuns : Street → BaseRecord → Dir → FreeBand → Type 0
TakesRuns a t d f = (j : ℕ) → j + 1 < count a → run t d (leg d (count a) j) ≡ run_of f j

-- Each base of these offsets with the band's runs keeps the limits of speed and has the band; and none whose runs keep the
-- limits has a wider one.
pub record IsFree (a : Street) (t : BaseRecord) (d : Dir) (f : FreeBand) : Type 0 where
  pub speeds : (run_out run_in : List ℕ) → TakesRuns a (with_runs run_out run_in t) d f → KeepsSpeeds a (with_runs run_out run_in t) d
  pub runs : (run_out run_in : List ℕ) → TakesRuns a (with_runs run_out run_in t) d f → RunsOn a (with_runs run_out run_in t) d (pos f.first) f.band
  pub widest : (run_out run_in : List ℕ) (x : ℤ) (b : ℕ) → KeepsSpeeds a (with_runs run_out run_in t) d → RunsOn a (with_runs run_out run_in t) d x b → b ≤ f.band

-- ---- finer grids
-- The times that a link takes at its greatest and its least speed are whole ticks.
pub record HasWholeLimits (a : Street) (t : BaseRecord) (d : Dir) (i : ℕ) : Type 0 where
  pub low : ℕ
  pub low_is : run_low a d i *ℚ number t.grid ≡ number low
  pub high : ℕ
  pub high_is : run_high a d i *ℚ number t.grid ≡ number high

-- on each link
abbrev pub AreWholeLimits : Street → BaseRecord → Dir → Type 0
AreWholeLimits a t d = (i : ℕ) → HasLink a i → HasWholeLimits a t d i

-- With no runs that keep the limits of speed any line is green all the way, however fine the grid.
abbrev pub NoneFreeFiner : Street → BaseRecord → Dir → Type 0
NoneFreeFiner a t d = (m : ℕ) → 1 ≤ m → NoneFree a (finer_base m t) d

-- On a grid m times as fine no runs that keep the limits of speed have a band wider than m times this one.
abbrev pub IsWidestFree : Street → BaseRecord → Dir → ℕ → Type 0
IsWidestFree a t d band = (m : ℕ) (run_out run_in : List ℕ) (x : ℤ) (b : ℕ) → 1 ≤ m
    → KeepsSpeeds a (with_runs run_out run_in (finer_base m t)) d → RunsOn a (with_runs run_out run_in (finer_base m t)) d x b → b ≤ m * band
