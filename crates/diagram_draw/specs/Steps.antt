-- Where a line steps: at each signal at which a queue is given time to clear, in the first cycle that is shown, a line at the edge of the bars is as long as
-- that time, from where the band begins there to where vehicles would reach the signal that don't trail it yet.
use Rattle.std.specs.Prelude.{ℕ, ◌+◌, ◌*◌, ◌==◌, ◌&&◌, nat_le, not, if◌then◌else◌, Bool, ℤ, pos, ◌-ℤ◌, List, [], ◌∷◌, ◌++◌}
use Rattle.std.specs.List.{flat_map, range_with_len}
use Rattle.progression.specs.Street.{Street, count, clearance}
use Rattle.progression.specs.TimingRecord.{TimingRecord, base}
use Rattle.progression.specs.BaseRecord.{BaseRecord}
use Rattle.progression.specs.Lines.{stop, line_at}
use Rattle.progression.specs.declared.parts.Dir.{Dir}
use Rattle.progression.specs.declared.parts.Dir.TheVariants.{Outbound, Inbound}
use Rattle.timing_measures.specs.Measures.{after_start}
use Rattle.diagram_draw.specs.declared.paint.Paint.TheVariants as paint
use Rattle.diagram_draw.specs.declared.shape.Shape.{Shape}
use Rattle.diagram_draw.specs.declared.shape.Shape.TheVariants as shape
use Rattle.diagram_draw.specs.declared.frame.Frame.{Frame}
use Rattle.diagram_draw.specs.Frames.{bar_height, x_at, level}
use Rattle.timing_words.specs.Ways.{has_band}

-- at which a direction's line is moved: its clearance at the signal that it comes to first takes part in nothing
abbrev pub has_step : Street → TimingRecord → Dir → ℕ → Bool
has_step a t d i = nat_le 1 (clearance a d i) && (not (i == stop d (count a) 0) && has_band a t d)

abbrev pub step_ticks : Street → BaseRecord → Dir → ℕ → ℕ
step_ticks a b d i = clearance a d i * b.unit

-- when the band begins at the signal
abbrev pub step_moment : Street → TimingRecord → Dir → ℕ → ℕ
step_moment a t d i = after_start a (base t) (line_at a t d i)

abbrev pub step_begin : Frame → Street → TimingRecord → Dir → ℕ → ℤ
step_begin f a t d i = x_at f (pos (step_moment a t d i))

abbrev pub step_end : Frame → Street → TimingRecord → Dir → ℕ → ℤ
step_end f a t d i = x_at f (pos (step_moment a t d i + step_ticks a (base t) d i))

-- so far below a level, or above it: on the side of the bars from which the band comes
abbrev pub beside : ℕ → Dir → ℕ → ℕ → ℤ
beside level Outbound below above = pos (level + below)
beside level Inbound below above = pos level -ℤ pos above

abbrev pub step_level : Frame → Street → Dir → ℕ → ℤ
step_level f a d i = beside (level f a i) d (bar_height + 15) (bar_height + 15)

-- and where the words of the mark stand
abbrev pub mark_level : Frame → Street → Dir → ℕ → ℤ
mark_level f a d i = beside (level f a i) d (bar_height + 120) (bar_height + 40)

abbrev pub step_line : Frame → Street → TimingRecord → Dir → ℕ → Shape
step_line f a t d i = shape.Line paint.Step (step_begin f a t d i) (step_level f a d i) (step_end f a t d i) (step_level f a d i)

abbrev pub steps_at : Frame → Street → TimingRecord → Dir → ℕ → List Shape
steps_at f a t d i = if has_step a t d i then step_line f a t d i ∷ [] else []

abbrev pub signal_steps : Frame → Street → TimingRecord → ℕ → List Shape
signal_steps f a t i = steps_at f a t Outbound i ++ steps_at f a t Inbound i

-- of the signals from the first on
abbrev pub steps : Frame → Street → TimingRecord → List Shape
steps f a t = flat_map (signal_steps f a t) (range_with_len 1 (count a))
