-- The bands between the signals: on each link a slanting piece of each direction's band wherever it leaves the one signal or enters the other
-- within the time that is shown.
use Rattle.std.specs.Prelude.{ℕ, ◌+◌, ◌-◌, ◌*◌, Bool, not, ◌&&◌, if◌then◌else◌, ℤ, pos, ◌+ℤ◌, ◌-ℤ◌, int_le, int_lt, List, [], ◌∷◌, ◌++◌}
use Rattle.std.specs.List.{flat_map, range_with_len}
use Rattle.progression.specs.Street.{Street, count}
use Rattle.progression.specs.TimingRecord.{TimingRecord, base, band}
use Rattle.progression.specs.BaseRecord.{run}
use Rattle.progression.specs.Lines.{line_at}
use Rattle.progression.specs.declared.parts.Dir.{Dir}
use Rattle.progression.specs.declared.parts.Dir.TheVariants.{Outbound, Inbound}
use Rattle.diagram_draw.specs.declared.paint.Paint.{Paint}
use Rattle.diagram_draw.specs.declared.paint.Paint.TheVariants as paint
use Rattle.diagram_draw.specs.declared.shape.Shape.{Shape}
use Rattle.diagram_draw.specs.declared.shape.Shape.TheVariants as shape
use Rattle.diagram_draw.specs.declared.frame.Frame.{Frame}
use Rattle.diagram_draw.specs.declared.bands.BandPart.{BandPart}
use Rattle.diagram_draw.specs.declared.bands.Edge.{Edge}
use Rattle.diagram_draw.specs.declared.bands.Edge.TheVariants.{Leaving, Entering}
use Rattle.timing_measures.specs.Measures.{after_start}
use Rattle.diagram_draw.specs.Frames.{bar_height, x_at, level, earlier, later}
use Rattle.timing_words.specs.Ways.{has_band}

-- the signals at which a direction's traffic enters a link and leaves it
abbrev pub tail : Dir → ℕ → ℕ
tail Outbound l = l
tail Inbound l = l + 1

abbrev pub head : Dir → ℕ → ℕ
head Outbound l = l + 1
head Inbound l = l

-- the levels of the piece: from the far edge of the bars at the one signal to the near edge of those at the other
abbrev pub leaving_level : Frame → Street → Dir → ℕ → ℤ
leaving_level f a Outbound l = pos (level f a l) -ℤ pos bar_height
leaving_level f a Inbound l = pos (level f a (l + 1)) +ℤ pos bar_height

abbrev pub entering_level : Frame → Street → Dir → ℕ → ℤ
entering_level f a Outbound l = pos (level f a (l + 1)) +ℤ pos bar_height
entering_level f a Inbound l = pos (level f a l) -ℤ pos bar_height

-- ---- a piece
abbrev pub band_paint : Dir → Paint
band_paint Outbound = paint.OutBand
band_paint Inbound = paint.InBand

-- of a band that is too narrow for two edges
abbrev pub line_paint : Dir → Paint
line_paint Outbound = paint.OutLine
line_paint Inbound = paint.InLine

-- as wide as the band at both ends
abbrev pub slant : Frame → BandPart → Shape
slant f part =
    shape.Slant (band_paint part.dir) (record { left = x_at f part.begin; right = x_at f (part.begin +ℤ pos part.band); level = part.from })
    (record { left = x_at f (part.begin +ℤ pos part.run); right = x_at f (part.begin +ℤ pos (part.run + part.band)); level = part.to })

-- or its first line alone
abbrev pub first_line : Frame → BandPart → Shape
first_line f part = shape.Line (line_paint part.dir) (x_at f part.begin) part.from (x_at f (part.begin +ℤ pos part.run)) part.to

-- so many ticks are less than 3 tenths of a pixel wide
abbrev pub is_narrow : Frame → ℕ → Bool
is_narrow f ticks = int_lt (x_at f (pos ticks)) (pos (f.left + 3))

-- a piece that leaves the one signal at a moment and enters the other a run later
abbrev pub piece : Frame → BandPart → Shape
piece f part = if is_narrow f part.band then first_line f part else slant f part

-- ---- which pieces there are
-- a band that begins at this moment and is so wide is somewhere within the time that is shown
abbrev pub is_seen : Frame → ℤ → ℕ → Bool
is_seen f begin band = int_le (pos 0) (begin +ℤ pos band) && int_lt begin (pos (f.cycles * f.cycle))

-- a piece that leaves within that time, or that only enters within it
abbrev pub is_chosen : Frame → Edge → BandPart → Bool
is_chosen f Leaving part = is_seen f part.begin part.band
is_chosen f Entering part = is_seen f (part.begin +ℤ pos part.run) part.band && not (is_seen f part.begin part.band)

abbrev pub chosen_piece : Frame → Edge → BandPart → List Shape
chosen_piece f e part = if is_chosen f e part then piece f part ∷ [] else []

-- the same so many cycles later
abbrev pub band_in_cycle : Frame → BandPart → ℕ → BandPart
band_in_cycle f part m = record part { begin = later f part.begin m }

-- such a piece in each cycle where it is one, of so many
abbrev pub some_pieces : Frame → Edge → BandPart → ℕ → List Shape
some_pieces f e part cycles = flat_map (λ m. chosen_piece f e (band_in_cycle f part m)) (range_with_len 0 cycles)

-- when the band leaves the link's first signal, in the cycle before the first that is shown; or when it leaves so as to enter the second in that cycle
abbrev pub first_begin : Frame → Street → TimingRecord → Dir → Edge → ℕ → ℤ
first_begin f a t d Leaving l = earlier f 1 (after_start a (base t) (line_at a t d (tail d l)))
first_begin f a t d Entering l = earlier f 1 (after_start a (base t) (line_at a t d (tail d l) +ℤ pos (run (base t) d l))) -ℤ pos (run (base t) d l)

-- a direction's band on a link in the first of these cycles
abbrev pub band_part : Frame → Street → TimingRecord → Dir → Edge → ℕ → BandPart
band_part f a t d e l = record {
  dir = d;
  from = leaving_level f a d l;
  to = entering_level f a d l;
  begin = first_begin f a t d e l;
  run = run (base t) d l;
  band = band t d;
}

abbrev pub edge_pieces : Frame → Street → TimingRecord → Dir → Edge → ℕ → List Shape
edge_pieces f a t d e l = some_pieces f e (band_part f a t d e l) (f.cycles + 1)

-- none where the direction has no band
abbrev pub pieces : Frame → Street → TimingRecord → Dir → ℕ → List Shape
pieces f a t d l = if has_band a t d then edge_pieces f a t d Leaving l ++ edge_pieces f a t d Entering l else []

-- on a link, outbound and inbound
abbrev pub link_pieces : Frame → Street → TimingRecord → ℕ → List Shape
link_pieces f a t l = pieces f a t Outbound l ++ pieces f a t Inbound l

abbrev pub all_pieces : Frame → Street → TimingRecord → List Shape
all_pieces f a t = flat_map (link_pieces f a t) (range_with_len 1 (count a - 1))
