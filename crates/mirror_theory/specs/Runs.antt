-- Which bands run on the doubled grid, where each signal chooses its phase by itself. Numbers of t stand for twice as many ticks
-- there, so a cycle of t is half a cycle, and the red of a signal reaches as far as its ticks on either side of its centre.
use Rattle.std.specs.Prelude.{ℕ, ◌+◌, ◌-◌, ◌≤◌, min, ℤ, pos, ◌+ℤ◌, ◌-ℤ◌}
use Rattle.progression.specs.Street.{Street, HasSignal}
use Rattle.progression.specs.TimingRecord.{TimingRecord, base}
use Rattle.progression.specs.BaseRecord.{cycle}
use Rattle.progression.specs.Green.{mod_ℤ, red_ticks}
use Rattle.progression.specs.declared.parts.Dir.TheVariants.{Outbound}
use Rattle.band_measure.specs.Edges.{way}

-- from the end of a red of r ticks to either side of its centre, on the cycle of c + c ticks, to a line at x
abbrev pub phase_wait : (c r : ℕ) → ℤ → ℕ → ℕ
phase_wait c r x phase = mod_ℤ (x -ℤ pos (phase + r)) (c + c)

-- how much later than signal 1 an outbound line crosses signal i, in ticks of the doubled grid
abbrev pub far : Street → TimingRecord → ℕ → ℤ
far a t i = way a (base t) Outbound (i - 1) +ℤ way a (base t) Outbound (i - 1)

-- the wait of a line that crosses signal 1 at x, at signal i, after a red centred at the phase (0, or half a cycle)
abbrev pub wait_in_phase : Street → TimingRecord → ℤ → ℕ → ℕ → ℕ
wait_in_phase a t x i phase = phase_wait (cycle a (base t)) (red_ticks a (base t) Outbound i) (x +ℤ far a t i) phase

-- in the better phase, with the red: what is not left for a band
abbrev pub taken : Street → TimingRecord → ℤ → ℕ → ℕ
taken a t x i = min (wait_in_phase a t x i 0) (wait_in_phase a t x i (cycle a (base t))) + red_ticks a (base t) Outbound i + red_ticks a (base t) Outbound i

-- a band that crosses signal 1 at x, and its mirror image, are green at every signal
abbrev pub Runs : Street → TimingRecord → ℤ → ℕ → Type 0
Runs a t x b = (i : ℕ) → HasSignal a i → taken a t x i + b ≤ cycle a (base t) + cycle a (base t)

-- no band that runs is wider
abbrev pub IsWidest : Street → TimingRecord → ℕ → Type 0
IsWidest a t b = (x : ℤ) (other : ℕ) → Runs a t x other → other ≤ b

-- the line that crosses signal i at the end of its red in this phase
abbrev pub candidate : Street → TimingRecord → ℕ → ℕ → ℤ
candidate a t i phase = pos (phase + red_ticks a (base t) Outbound i) -ℤ far a t i
