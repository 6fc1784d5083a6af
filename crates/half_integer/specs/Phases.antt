-- The phase of a red in a half-cycle plan.
use Rattle.std.specs.Prelude.{ℕ, ◌/◌, ◌%◌, ◌==◌, ◌&&◌, not, Bool, pos, ◌-ℤ◌, if◌then◌else◌}
use Rattle.progression.specs.Street.{Street, HasSignal}
use Rattle.progression.specs.TimingRecord.{TimingRecord, base}
use Rattle.progression.specs.BaseRecord.{cycle}
use Rattle.progression.specs.Green.{since, red_start, red_ticks}
use Rattle.progression.specs.declared.parts.Dir.TheVariants.{Outbound}
use Rattle.mirror_theory.specs.EqualBands.{IsCentred, IsHalfCycleBest}

-- the outbound red of a signal has a middle, which is at 0, or whole cycles from there
abbrev pub is_centred : Street → TimingRecord → ℕ → Bool
is_centred a s i = (red_ticks a (base s) Outbound i % 2 == 0) && (since (cycle a (base s)) (red_start a (base s) Outbound i) (pos 0 -ℤ pos (red_ticks a (base s) Outbound i / 2)) == 0)

unfoldable pub is_later : Street → TimingRecord → ℕ → Bool
is_later a s i = not (is_centred a s i)

-- In a half-cycle plan of t this says where the red is centred: half a cycle later, or at 0.
abbrev pub PhasesSay : Type 0
PhasesSay = (a : Street) (t s : TimingRecord) (i : ℕ) → IsHalfCycleBest a t s → HasSignal a i
    → IsCentred a s Outbound i (if is_later a s i then pos (cycle a (base t)) else pos 0)
