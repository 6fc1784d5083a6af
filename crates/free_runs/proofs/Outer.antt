-- Limits of runs that hold on finer grids too.
use Rattle.std.specs.Prelude.{◌≡◌, ℕ, ◌+◌, ◌*◌, ◌<◌, ◌≤◌, List, length}
use Rattle.rational_theory.specs.Rational.{◌*ℚ◌, ◌≤ℚ◌}
use Rattle.progression.specs.Street.{Street, count, clearance}
use Rattle.progression.specs.BaseRecord.{BaseRecord}
use Rattle.progression.specs.Speeds.{number, run_low, run_high}
use Rattle.progression.specs.Lines.{stop, leg}
use Rattle.progression.specs.declared.parts.Dir.{Dir}
use Rattle.free_band.specs.Way.{signal_of, link_of}
use Rattle.free_band.specs.declared.way.WaySignal.{WaySignal}
use Rattle.free_band.specs.declared.way.WayLink.{WayLink}
use Rattle.free_runs.specs.Street.{IsStop}

-- on a grid m times as fine the speeds allow no run outside m times these limits
pub record AreOuter (a : Street) (d : Dir) (grid i least most : ℕ) : Type 0 where
  pub fast : (m n : ℕ) → (run_low a d i *ℚ number (grid * m)) ≤ℚ number n → least * m ≤ n
  pub slow : (m n : ℕ) → number n ≤ℚ (run_high a d i *ℚ number (grid * m)) → n ≤ most * m

pub record IsOuterLeg (a : Street) (t : BaseRecord) (d : Dir) (j : ℕ) (l : WayLink) : Type 0 where
  pub limits : AreOuter a d t.grid (leg d (count a) j) l.least l.most
  pub clear : l.clear ≡ clearance a d (stop d (count a) (j + 1)) * t.unit

-- the signals and links of the direction with such limits
pub record IsOuterWayOf (a : Street) (t : BaseRecord) (d : Dir) (signals : List WaySignal) (links : List WayLink) : Type 0 where
  pub count_signals : length signals ≡ count a
  pub count_links : length links + 1 ≡ count a
  pub stops : (j : ℕ) → j < count a → IsStop a t d j (signal_of signals j)
  pub legs : (j : ℕ) → j + 1 < count a → IsOuterLeg a t d j (link_of links j)
