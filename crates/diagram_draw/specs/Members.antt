-- Which shapes are seen through the field of a drawing.
use Rattle.std.specs.Prelude.{◌≡◌, ◌⊎◌, ℕ, ◌+◌, ◌<◌, ◌≤◌, Bool, true, false, IsTrue}
use Rattle.progression.specs.Street.{Street, HasSignal, HasLink, left_against}
use Rattle.progression.specs.BaseRecord.{BaseRecord}
use Rattle.progression.specs.TimingRecord.{TimingRecord, base}
use Rattle.progression.specs.declared.parts.Dir.{Dir}
use Rattle.diagram_draw.specs.declared.paint.Paint.{Paint}
use Rattle.diagram_draw.specs.declared.paint.Paint.TheVariants as paint
use Rattle.diagram_draw.specs.declared.shape.Shape.{Shape}
use Rattle.diagram_draw.specs.declared.shape.Shape.TheVariants as shape
use Rattle.diagram_draw.specs.declared.frame.Frame.{Frame}
use Rattle.diagram_draw.specs.declared.bars.BarPart.{BarPart}
use Rattle.diagram_draw.specs.declared.bands.BandPart.{BandPart}
use Rattle.diagram_draw.specs.declared.bands.Edge.{Edge}
use Rattle.timing_words.specs.Ways.{has_band}
use Rattle.diagram_draw.specs.Bands.{is_chosen, piece, band_in_cycle, band_part}
use Rattle.diagram_draw.specs.Bars.{block, bar_in_cycle, window_part, common_part, turn_part, ground}

-- a block of a bar in one of the cycles, from a moment on that comes again in each, and so many ticks long
pub record IsBlock (f : Frame) (part : BarPart) (s : Shape) : Type 0 where
  pub cycle : ℕ
  pub shown : cycle < f.cycles + 1
  pub is : s ≡ block f (bar_in_cycle f part cycle)

-- ---- what stands at a signal
-- the band, where the direction has one
abbrev pub IsWindow : Frame → Street → TimingRecord → Dir → ℕ → Shape → Type 0
IsWindow f a t d i s = IsTrue (has_band a t d) × IsBlock f (window_part f a t d i) s

abbrev pub IsCommonRed : Frame → Street → BaseRecord → Dir → ℕ → Shape → Type 0
IsCommonRed f a b d i s = IsBlock f (common_part f a b d i) s

-- the rest of a red, where some left turn is against the direction
abbrev pub IsTurnRed : Frame → Street → BaseRecord → Dir → ℕ → Shape → Type 0
IsTurnRed f a b d i s = (1 ≤ left_against a d i) × IsBlock f (turn_part f a b d i) s

abbrev pub IsRed : Frame → Street → BaseRecord → Dir → ℕ → Shape → Type 0
IsRed f a b d i s = IsCommonRed f a b d i s ⊎ IsTurnRed f a b d i s

-- ---- what stands on a link
-- a part of the band that leaves or enters within the time that is shown, in one of the cycles
pub record IsDrawnPart (f : Frame) (a : Street) (t : TimingRecord) (d : Dir) (l : ℕ) (part : BandPart) : Type 0 where
  pub edge : Edge
  pub cycle : ℕ
  pub shown : cycle < f.cycles + 1
  pub is : part ≡ band_in_cycle f (band_part f a t d edge l) cycle
  pub chosen : IsTrue (is_chosen f edge part)

pub record IsPiece (f : Frame) (a : Street) (t : TimingRecord) (d : Dir) (l : ℕ) (s : Shape) : Type 0 where
  pub there : IsTrue (has_band a t d)
  pub part : BandPart
  pub drawn : IsDrawnPart f a t d l part
  pub is : s ≡ piece f part

-- ---- all of them
pub data IsFieldShape (f : Frame) (a : Street) (t : TimingRecord) (s : Shape) : Type 0 where
  Piece : (d : Dir) (l : ℕ) → HasLink a l → IsPiece f a t d l s → IsFieldShape f a t s
  Ground : (d : Dir) (i : ℕ) → HasSignal a i → s ≡ ground f a d i → IsFieldShape f a t s
  Window : (d : Dir) (i : ℕ) → HasSignal a i → IsWindow f a t d i s → IsFieldShape f a t s
  Red : (d : Dir) (i : ℕ) → HasSignal a i → IsRed f a (base t) d i s → IsFieldShape f a t s

-- painted as either part of a red
abbrev pub is_red_paint : Paint → Bool
is_red_paint paint.CommonRed = true
is_red_paint paint.TurnRed = true
is_red_paint p = false

abbrev pub is_red : Shape → Bool
is_red (shape.Rect p left top right bottom) = is_red_paint p
is_red (shape.Slant p from to) = is_red_paint p
is_red (shape.Line p x y next_x next_y) = is_red_paint p
