-- One direction of an artery as signals and links in travel order, on the offsets of a base.
use Rattle.std.specs.Prelude.{◌≡◌, ℕ, ◌+◌, ◌*◌, ◌<◌, ◌≤◌, ◌^◌, ◌↔◌, List, length, unsigned_abs}
use Rattle.rational_theory.specs.Rational.{◌*ℚ◌, ◌≤ℚ◌}
use Rattle.progression.specs.Street.{Street, count, clearance}
use Rattle.progression.specs.Speeds.{number, run_low, run_high}
use Rattle.progression.specs.BaseRecord.{BaseRecord, cycle}
use Rattle.progression.specs.Green.{red_start, red_ticks}
use Rattle.progression.specs.Lines.{stop, leg}
use Rattle.progression.specs.declared.parts.Dir.{Dir}
use Rattle.free_band.specs.Way.{signal_of, link_of}
use Rattle.free_band.specs.declared.way.WaySignal.{WaySignal}
use Rattle.free_band.specs.declared.way.WayLink.{WayLink}

-- the least and the greatest number of ticks that the link's speeds allow
pub record AreLimits (a : Street) (d : Dir) (grid i least most : ℕ) : Type 0 where
  pub fast : (n : ℕ) → ((run_low a d i *ℚ number grid) ≤ℚ number n) ↔ (least ≤ n)
  pub slow : (n : ℕ) → (number n ≤ℚ (run_high a d i *ℚ number grid)) ↔ (n ≤ most)

-- the reds of the signal at place j
pub record IsStop (a : Street) (t : BaseRecord) (d : Dir) (j : ℕ) (s : WaySignal) : Type 0 where
  pub start : s.start ≡ red_start a t d (stop d (count a) j)
  pub red : s.red ≡ red_ticks a t d (stop d (count a) j)
  pub near : unsigned_abs s.start < 2 ^ 99
  pub inside : 2 ≤ s.red
  pub shorter : s.red < cycle a t

-- the limits of the link after place j, and the clearance after it
pub record IsLeg (a : Street) (t : BaseRecord) (d : Dir) (j : ℕ) (l : WayLink) : Type 0 where
  pub limits : AreLimits a d t.grid (leg d (count a) j) l.least l.most
  pub clear : l.clear ≡ clearance a d (stop d (count a) (j + 1)) * t.unit

-- the signals and links of the direction
pub record IsWayOf (a : Street) (t : BaseRecord) (d : Dir) (signals : List WaySignal) (links : List WayLink) : Type 0 where
  pub count_signals : length signals ≡ count a
  pub count_links : length links + 1 ≡ count a
  pub stops : (j : ℕ) → j < count a → IsStop a t d j (signal_of signals j)
  pub legs : (j : ℕ) → j + 1 < count a → IsLeg a t d j (link_of links j)
