-- Limits as rational numbers of seconds, and changes of pace.
use Rattle.std.specs.Prelude.{ℕ}
use Rattle.rational_theory.specs.Rational.{ℚ, ◌-ℚ◌, ◌/ℚ◌}
use Rattle.progression.specs.Speeds.{number}

-- the pace of the second of two runs less that of the first
abbrev pub paces_apart : ℕ → ℕ → ℕ → ℕ → ℚ
paces_apart run distance next_run next_distance = number next_run /ℚ number next_distance -ℚ number run /ℚ number distance
