-- The numbers that people are told of a timing: to the nearest tenth, and from the midst of two upwards.
use Rattle.std.specs.Prelude.{ℕ, ◌*◌, ◌/◌, ◌%◌, ◌==◌, if◌then◌else◌, pos, List, ◌++◌, codes}
use Rattle.std.specs.Fmt.{decimal}
use Rattle.rational_theory.specs.Rational.{ℚ, over}
use Rattle.progression.specs.Street.{Street}
use Rattle.progression.specs.TimingRecord.{TimingRecord, base, band}
use Rattle.progression.specs.BaseRecord.{BaseRecord, cycle}
use Rattle.progression.specs.declared.parts.Dir.{Dir}
use Rattle.timing_measures.specs.Measures.{seconds, cycle_seconds}
use Rattle.timing_measures.specs.Rounding.{nearest}

-- so many tenths
abbrev pub tenths_text : ℕ → List ℕ
tenths_text n = decimal (n / 10) ++ (codes "." ++ decimal (n % 10))

-- a number, to the nearest tenth
abbrev pub tenths : ℚ → List ℕ
tenths x = tenths_text (nearest x 1)

abbrev pub seconds_text : BaseRecord → ℕ → List ℕ
seconds_text t ticks = tenths (seconds t ticks)

-- a direction's band in hundredths of the cycle
abbrev pub percent_text : Street → TimingRecord → Dir → List ℕ
percent_text a t d = tenths (over (pos (100 * band t d)) (cycle a (base t)))

-- the tenths of a second of a moment within the cycle: one that is rounded to the cycle is 0
abbrev pub moment_tenths : Street → BaseRecord → ℚ → ℕ
moment_tenths a t x = let n = nearest x 1 in if n == nearest (cycle_seconds a t) 1 then 0 else n

unfoldable pub moment_text : Street → BaseRecord → ℚ → List ℕ
moment_text a t x = tenths_text (moment_tenths a t x)
