-- The bars at the signals: for each direction its reds and its band in each cycle that is shown. The bar of the outbound direction is
-- below the signal's level, where its traffic comes from, and that of the inbound one above it.
use Rattle.std.specs.Prelude.{ℕ, ◌+◌, ◌*◌, ◌==◌, if◌then◌else◌, ℤ, pos, ◌+ℤ◌, ◌-ℤ◌, List, [], ◌∷◌, ◌++◌, map}
use Rattle.std.specs.List.{flat_map, range_with_len}
use Rattle.progression.specs.Street.{Street, count, signal_of, left_against}
use Rattle.progression.specs.TimingRecord.{TimingRecord, base, band}
use Rattle.progression.specs.BaseRecord.{BaseRecord, pattern_of}
use Rattle.progression.specs.Green.{is_early, red_start}
use Rattle.progression.specs.Lines.{line_at}
use Rattle.progression.specs.declared.parts.Dir.{Dir}
use Rattle.progression.specs.declared.parts.Dir.TheVariants.{Outbound, Inbound}
use Rattle.diagram_draw.specs.declared.paint.Paint.{Paint}
use Rattle.diagram_draw.specs.declared.paint.Paint.TheVariants as paint
use Rattle.diagram_draw.specs.declared.shape.Shape.{Shape}
use Rattle.diagram_draw.specs.declared.shape.Shape.TheVariants as shape
use Rattle.diagram_draw.specs.declared.frame.Frame.{Frame}
use Rattle.diagram_draw.specs.declared.bars.BarPart.{BarPart}
use Rattle.timing_measures.specs.Measures.{after_start}
use Rattle.diagram_draw.specs.Frames.{bar_height, x_at, level, plot_right, earlier, later}
use Rattle.timing_words.specs.Ways.{has_band}

-- where a direction's bar begins, and where it ends
abbrev pub bar_top : Frame → Street → Dir → ℕ → ℤ
bar_top f a Outbound i = pos (level f a i)
bar_top f a Inbound i = pos (level f a i) -ℤ pos bar_height

-- ---- blocks
-- a block of a bar, from a moment on and so many ticks long
abbrev pub block : Frame → BarPart → Shape
block f part = shape.Rect part.paint (x_at f part.begin) part.top (x_at f (part.begin +ℤ pos part.ticks)) (part.top +ℤ pos bar_height)

-- the same so many cycles later
abbrev pub bar_in_cycle : Frame → BarPart → ℕ → BarPart
bar_in_cycle f part m = record part { begin = later f part.begin m }

-- such a block in each cycle, so many of them
abbrev pub some_blocks : Frame → BarPart → ℕ → List Shape
some_blocks f part cycles = map (λ m. block f (bar_in_cycle f part m)) (range_with_len 0 cycles)

-- in the cycle before the first that is shown, which may reach into it, and in each that is shown
abbrev pub blocks : Frame → BarPart → List Shape
blocks f part = some_blocks f part (f.cycles + 1)

-- ---- what they show
-- where the direction's red and its band begin in the cycle before the first
abbrev pub first_red : Frame → Street → BaseRecord → Dir → ℕ → ℤ
first_red f a b d i = earlier f 1 (after_start a b (red_start a b d i))

abbrev pub first_window : Frame → Street → TimingRecord → Dir → ℕ → ℤ
first_window f a t d i = earlier f 1 (after_start a (base t) (line_at a t d i))

-- the two parts of a direction's red, in ticks
abbrev pub common_ticks : Street → BaseRecord → ℕ → ℕ
common_ticks a b i = (signal_of a i).red * b.unit

abbrev pub turn_ticks : Street → BaseRecord → Dir → ℕ → ℕ
turn_ticks a b d i = left_against a d i * b.unit

-- how long after the start of the direction's red each of them begins: the left turn that lags comes first
abbrev pub common_wait : Street → BaseRecord → Dir → ℕ → ℕ
common_wait a b d i = if is_early d (pattern_of b i) then turn_ticks a b d i else 0

abbrev pub turn_wait : Street → BaseRecord → Dir → ℕ → ℕ
turn_wait a b d i = if is_early d (pattern_of b i) then 0 else common_ticks a b i

abbrev pub window_paint : Dir → Paint
window_paint Outbound = paint.OutWindow
window_paint Inbound = paint.InWindow

-- the direction's band and the two parts of its red in the cycle before the first
abbrev pub window_part : Frame → Street → TimingRecord → Dir → ℕ → BarPart
window_part f a t d i = record { paint = window_paint d; top = bar_top f a d i; begin = first_window f a t d i; ticks = band t d }

abbrev pub common_part : Frame → Street → BaseRecord → Dir → ℕ → BarPart
common_part f a b d i = record {
  paint = paint.CommonRed;
  top = bar_top f a d i;
  begin = first_red f a b d i +ℤ pos (common_wait a b d i);
  ticks = common_ticks a b i;
}

abbrev pub turn_part : Frame → Street → BaseRecord → Dir → ℕ → BarPart
turn_part f a b d i = record {
  paint = paint.TurnRed;
  top = bar_top f a d i;
  begin = first_red f a b d i +ℤ pos (turn_wait a b d i);
  ticks = turn_ticks a b d i;
}

-- ---- a bar
abbrev pub ground : Frame → Street → Dir → ℕ → Shape
ground f a d i = shape.Rect paint.Ground (pos f.left) (bar_top f a d i) (pos (plot_right f)) (bar_top f a d i +ℤ pos bar_height)

-- none where the direction has no band
abbrev pub windows : Frame → Street → TimingRecord → Dir → ℕ → List Shape
windows f a t d i = if has_band a t d then blocks f (window_part f a t d i) else []

abbrev pub common_reds : Frame → Street → BaseRecord → Dir → ℕ → List Shape
common_reds f a b d i = blocks f (common_part f a b d i)

-- none where no left turn is against the direction
abbrev pub turn_reds : Frame → Street → BaseRecord → Dir → ℕ → List Shape
turn_reds f a b d i = if left_against a d i == 0 then [] else blocks f (turn_part f a b d i)

abbrev pub bar : Frame → Street → TimingRecord → Dir → ℕ → List Shape
bar f a t d i = ground f a d i ∷ (windows f a t d i ++ (common_reds f a (base t) d i ++ turn_reds f a (base t) d i))

abbrev pub signal_bars : Frame → Street → TimingRecord → ℕ → List Shape
signal_bars f a t i = bar f a t Outbound i ++ bar f a t Inbound i

-- of the signals from the first on
abbrev pub all_bars : Frame → Street → TimingRecord → List Shape
all_bars f a t = flat_map (signal_bars f a t) (range_with_len 1 (count a))
