-- What the two moves mean for good timings.
use Rattle.std.specs.Prelude.{ℕ, Contains}
use Rattle.rational_theory.specs.Rational.{ℚ, ◌+ℚ◌, ◌<ℚ◌}
use Rattle.progression.specs.Street.{Street, HasLink}
use Rattle.progression.specs.Speeds.{run_low, run_high}
use Rattle.progression.specs.TimingRecord.{TimingRecord}
use Rattle.progression.specs.Good.{Good}
use Rattle.progression.specs.declared.parts.Units.{Units}
use Rattle.progression.specs.declared.parts.Dir.{Dir}
use Rattle.artery_model.specs.Valid.{IsValid}
use Rattle.speed_steps.specs.Steps.{steps}
use Rattle.speed_steps.specs.Moved.{narrow, widen, street_moved}
use Rattle.speed_steps.specs.declared.way.Way.{Way}

-- every good timing of the narrowed street is good for the street
abbrev pub NarrowIsWithin : Type 0
NarrowIsWithin = (a : Street) (t : TimingRecord) → IsValid a → Good (narrow a) t → Good a t

-- every good timing of the street is good for the widened street
abbrev pub WidenHoldsAll : Type 0
WidenHoldsAll = (a : Street) (t : TimingRecord) → IsValid a → Good a t → Good (widen a) t

-- two runs are less than one of the steps apart
pub record AreNear (units : Units) (run other : ℚ) : Type 0 where
  pub step : ℚ
  pub among : Contains (steps units) step
  pub above : run <ℚ (other +ℚ step)
  pub below : other <ℚ (run +ℚ step)

-- no limit of a run moves by as much as a step
abbrev pub RunsStayNear : Type 0
RunsStayNear = (way : Way) (a : Street) → IsValid a → (d : Dir) (i : ℕ) → HasLink a i
    → AreNear a.head.units (run_low a d i) (run_low (street_moved way a) d i) × AreNear a.head.units (run_high a d i) (run_high (street_moved way a) d i)
