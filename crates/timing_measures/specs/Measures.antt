-- The numbers of a timing as people use them: fractions of the cycle, seconds, and speeds in the units of the description.
use Rattle.std.specs.Prelude.{ℕ, ℤ, pos, ◌*◌}
use Rattle.rational_theory.specs.Rational.{ℚ, over}
use Rattle.progression.specs.Street.{Street, distance}
use Rattle.progression.specs.TimingRecord.{TimingRecord, base, band}
use Rattle.progression.specs.BaseRecord.{BaseRecord, cycle, run, common_red}
use Rattle.progression.specs.Green.{since}
use Rattle.progression.specs.declared.parts.Units.{Units}
use Rattle.progression.specs.declared.parts.Units.TheVariants.{Metric, English}
use Rattle.progression.specs.declared.parts.Dir.{Dir}

-- a band as a fraction of the cycle
abbrev pub band_share : Street → TimingRecord → Dir → ℚ
band_share a t d = over (pos (band t d)) (cycle a (base t))

-- ---- moments, of a base
-- so many ticks in seconds
abbrev pub seconds : BaseRecord → ℕ → ℚ
seconds t ticks = over (pos ticks) t.grid

abbrev pub cycle_seconds : Street → BaseRecord → ℚ
cycle_seconds a t = seconds t (cycle a t)

-- how many ticks a tick comes after the last start of the common red of signal 1: from 0 to a cycle less one
abbrev pub after_start : Street → BaseRecord → ℤ → ℕ
after_start a t tick = since (cycle a t) (common_red t 1) tick

-- how many seconds after the common red of signal 1 that of signal i starts, from 0 up to a cycle
abbrev pub offset : Street → BaseRecord → ℕ → ℚ
offset a t i = seconds t (after_start a t (common_red t i))

-- ---- speeds
-- The speed at which a distance takes so many ticks, with `grid` ticks in a second: 1 m/s is 18/5 km/h, and 1 foot a second is
-- 15/22 miles an hour.
abbrev pub speed_of : Units → ℕ → ℕ → ℕ → ℚ
speed_of Metric distance grid ticks = over (pos (18 * distance * grid)) (5 * ticks)
speed_of English distance grid ticks = over (pos (15 * distance * grid)) (22 * ticks)

abbrev pub link_speed : Street → BaseRecord → Dir → ℕ → ℚ
link_speed a t d i = speed_of a.head.units (distance a d i) t.grid (run t d i)
