-- The steps of a run, and a speed moved so that its run is a multiple of a step.
use Rattle.std.specs.Prelude.{ℕ, List, [], ◌∷◌, pos}
use Rattle.rational_theory.specs.Rational.{ℚ, whole, over, ◌*ℚ◌, ◌/ℚ◌}
use Rattle.rational_theory.specs.Floor.{floor_ℚ, ceil_ℚ}
use Rattle.progression.specs.Speeds.{seconds}
use Rattle.progression.specs.declared.parts.Units.{Units}
use Rattle.progression.specs.declared.parts.Units.TheVariants.{Metric, English}

-- In seconds, in the order in which they are tried. The speed whose run is j of them is short whatever the length is: on d metres
-- 36 d / j, 10 d / j and d / j km/h, on d feet 10 d / j, 5 d / j and d / j miles an hour.
abbrev pub steps : Units → List ℚ
steps Metric = over (pos 1) 10 ∷ over (pos 9) 25 ∷ over (pos 18) 5 ∷ []
steps English = over (pos 3) 44 ∷ over (pos 3) 22 ∷ over (pos 15) 22 ∷ []

-- the multiples of a step next to a run: the greatest that is at most the run, and the least that is at least the run
abbrev pub shorter : ℚ → ℚ → ℚ
shorter step run = whole (floor_ℚ (run /ℚ step)) *ℚ step

abbrev pub longer : ℚ → ℚ → ℚ
longer step run = whole (ceil_ℚ (run /ℚ step)) *ℚ step

-- The speed of the run next to that of a speed, on a length. A speed is found of a run as a run is of a speed (and is 0 of a run of 0).
abbrev pub faster : Units → ℕ → ℚ → ℚ → ℚ
faster units length v step = seconds units length (shorter step (seconds units length v))

abbrev pub slower : Units → ℕ → ℚ → ℚ → ℚ
slower units length v step = seconds units length (longer step (seconds units length v))
