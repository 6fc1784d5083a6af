-- The weighted band of a timing, and what it means that a timing is best: no good timing on any grid has a greater one.
use Rattle.rational_theory.specs.Rational.{ℚ, ◌+ℚ◌, ◌*ℚ◌, ◌/ℚ◌}
use Rattle.progression.specs.Street.{Street}
use Rattle.progression.specs.Speeds.{number}
use Rattle.progression.specs.BaseRecord.{cycle}
use Rattle.progression.specs.TimingRecord.{TimingRecord, base}
use Rattle.progression.specs.Good.{Good}
use Rattle.progression.specs.Objectives.{Objective, BoundedBy, BestOf, NoneOf}

-- as a fraction of the cycle (above 0: a valid artery has parts, and a timing ticks in each)
abbrev pub weighted_band : Street → TimingRecord → ℚ
weighted_band a t = (number t.band_out +ℚ a.head.ratio *ℚ number t.band_in) /ℚ number (cycle a (base t))

-- the good timings of an artery, on any grid, by their weighted bands
abbrev pub bands_of : Street → Objective TimingRecord
bands_of a = record { IsGood = Good a; worth = weighted_band a }

abbrev pub Bounded : Street → ℚ → Type 0
Bounded a = BoundedBy (bands_of a)

abbrev pub Best : Street → TimingRecord → Type 0
Best a = BestOf (bands_of a)

abbrev pub NoTiming : Street → Type 0
NoTiming a = NoneOf (bands_of a)
