-- Runs in seconds from distances and speeds, and limits on changes of pace in seconds per metre or per foot.
use Rattle.std.specs.Prelude.{ℕ, ◌*◌, Option, option_map, pos}
use Rattle.rational_theory.specs.Rational.{ℚ, whole, ◌*ℚ◌, ◌/ℚ◌}
use Rattle.progression.specs.Street.{Street, distance, speed, change_given}
use Rattle.progression.specs.declared.parts.Units.{Units}
use Rattle.progression.specs.declared.parts.Units.TheVariants.{Metric, English}
use Rattle.progression.specs.declared.parts.Pair.{Pair}
use Rattle.progression.specs.declared.parts.Dir.{Dir}

-- a natural number among the rational numbers
abbrev pub number : ℕ → ℚ
number n = whole (pos n)

-- the seconds that a distance takes at a speed: 1 km/h is 5/18 m/s, and 1 mile an hour is 22/15 feet a second (no valid
-- artery has a speed of 0, over which a quotient is 0)
abbrev pub seconds : Units → ℕ → ℚ → ℚ
seconds Metric d v = number (18 * d) /ℚ (number 5 *ℚ v)
seconds English d v = number (15 * d) /ℚ (number 22 *ℚ v)

-- the run on a link at the greatest and at the least speed
abbrev pub run_low : Street → Dir → ℕ → ℚ
run_low a d i = seconds a.head.units (distance a d i) (speed a d i).most

abbrev pub run_high : Street → Dir → ℕ → ℚ
run_high a d i = seconds a.head.units (distance a d i) (speed a d i).least

-- metres in a kilometre, feet in a mile
abbrev pub unit_length : Units → ℕ
unit_length Metric = 1000
unit_length English = 5280

-- the limits of a change of pace, in seconds per metre or per foot
abbrev pub change : Street → Dir → ℕ → Option Pair
change a d i = let length = number (unit_length a.head.units) in
    option_map (λ (p : Pair). record { least = p.least /ℚ length; most = p.most /ℚ length }) (change_given a d i)
