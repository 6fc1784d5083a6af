-- What the drawing says of the model: reds are drawn where the model is red, no band is drawn over a red of its own direction, and none crosses a bar
-- between two signals.
use Rattle.std.specs.Prelude.{◌≡◌, ◌⊎◌, ◌↔◌, Contains, Option, List, ℕ, ◌+◌, ◌-◌, ◌*◌, ◌<◌, ◌≤◌, nat_le, ℤ, pos, ◌+ℤ◌, ◌≤ℤ◌, Bool, true, false, IsTrue}
use Rattle.progression.specs.Street.{Street, count, HasSignal, HasLink, clearance}
use Rattle.progression.specs.TimingRecord.{TimingRecord, base, band}
use Rattle.progression.specs.BaseRecord.{BaseRecord, cycle, run, common_red}
use Rattle.progression.specs.Green.{since, is_green, red_start, red_ticks}
use Rattle.progression.specs.Lines.{line_at, IsGreenWay}
use Rattle.progression.specs.declared.parts.Dir.{Dir}
use Rattle.progression.specs.declared.parts.Dir.TheVariants.{Outbound, Inbound}
use Rattle.artery_model.specs.Valid.{IsValid}
use Rattle.time_space.specs.Reds.{IsInside}
use Rattle.diagram_draw.specs.declared.frame.Frame.{Frame}
use Rattle.diagram_draw.specs.declared.shape.Shape.{Shape}
use Rattle.diagram_draw.specs.Frames.{bar_height, both_bars, x_at, level, later, IsFrame}
use Rattle.diagram_draw.specs.declared.bands.BandPart.{BandPart}
use Rattle.diagram_draw.specs.declared.bands.Edge.{Edge}
use Rattle.diagram_draw.specs.Bands.{tail, head, leaving_level, entering_level, is_chosen, band_in_cycle, band_part}
use Rattle.diagram_draw.specs.Bars.{bar_top, first_red, first_window, common_wait, turn_wait, common_ticks, turn_ticks}
use Rattle.diagram_draw.specs.Members.{IsDrawnPart, IsFieldShape, IsRed, is_red}
use Rattle.diagram_draw.specs.Pages.{drawn}

-- ---- places
-- a later moment never stands further to the left
abbrev pub PlacesAscend : Type 0
PlacesAscend = (f : Frame) (early late : ℤ) → IsFrame f → early ≤ℤ late → x_at f early ≤ℤ x_at f late

-- ---- reds
-- The two parts of a direction's red are the whole of it, one after the other, and one begins with the signal's common red.
pub record AreRedParts (a : Street) (b : BaseRecord) (d : Dir) (i : ℕ) : Type 0 where
  pub begun : red_start a b d i +ℤ pos (common_wait a b d i) ≡ common_red b i
  pub whole : common_ticks a b i + turn_ticks a b d i ≡ red_ticks a b d i
  pub order : ((common_wait a b d i ≡ 0) × (turn_wait a b d i ≡ common_ticks a b i)) ⊎ ((turn_wait a b d i ≡ 0) × (common_wait a b d i ≡ turn_ticks a b d i))

abbrev pub RedsHaveTwoParts : Type 0
RedsHaveTwoParts = (a : Street) (b : BaseRecord) (d : Dir) (i : ℕ) → AreRedParts a b d i

-- ---- bands
-- the red and the band of a direction at a signal, in any two cycles: one is over where the other begins, and so it is drawn
pub record AreApart (f : Frame) (a : Street) (t : TimingRecord) (d : Dir) (i m n : ℕ) : Type 0 where
  pub apart : (x_at f (later f (first_window f a t d i) m +ℤ pos (band t d)) ≤ℤ x_at f (later f (first_red f a (base t) d i) n))
      ⊎ (x_at f (later f (first_red f a (base t) d i) n +ℤ pos (red_ticks a (base t) d i)) ≤ℤ x_at f (later f (first_window f a t d i) m))

abbrev pub BandsMissReds : Type 0
BandsMissReds =
    (f : Frame) (a : Street) (t : TimingRecord) (d : Dir) (i m n : ℕ) → IsFrame f → f.cycle ≡ cycle a (base t) → IsValid a → 2 ≤ t.unit → HasSignal a i → IsGreenWay a t d
    → AreApart f a t d i m n

-- At a moment within the cycles that are shown a direction is red at a signal exactly where it is strictly inside one of the reds that are drawn.
abbrev pub RedsAreShown : Type 0
RedsAreShown =
    (f : Frame) (a : Street) (b : BaseRecord) (d : Dir) (i n : ℕ) → IsFrame f → f.cycle ≡ cycle a b → IsValid a → 2 ≤ b.unit → HasSignal a i → n < f.cycles * f.cycle
    → (is_green (cycle a b) (red_start a b d i) (red_ticks a b d i) (common_red b 1 +ℤ pos n) ≡ false)
    ↔ ((m : ℕ) × (m < f.cycles + 1) × IsInside (later f (first_red f a b d i) m) (red_ticks a b d i) (pos n))

-- The band reaches the signal at the end of a link a run after it left the one at its start, and began there earlier by the time that the queue has to
-- clear: so the piece of a link enters that long after the band at the signal where it enters begins.
abbrev pub PiecesMeetWindows : Type 0
PiecesMeetWindows =
    (a : Street) (t : TimingRecord) (d : Dir) (l : ℕ) → HasLink a l
    → line_at a t d (head d l) +ℤ pos (clearance a d (head d l) * t.unit) ≡ line_at a t d (tail d l) +ℤ pos (run (base t) d l)

-- a moment from where a band begins that is so wide to where it ends
pub record IsWithin (begin : ℤ) (band : ℕ) (moment : ℤ) : Type 0 where
  pub begun : begin ≤ℤ moment
  pub lasting : moment ≤ℤ (begin +ℤ pos band)

-- whether a direction's band of some cycle passes so many ticks after the start of the common red of signal 1, where its first line passes at this tick
abbrev pub is_passing : Street → TimingRecord → Dir → ℤ → ℕ → Bool
is_passing a t d line n = nat_le (since (cycle a (base t)) line (common_red (base t) 1 +ℤ pos n)) (band t d)

-- the band leaves the link's first signal at a moment exactly where one of the pieces that are drawn leaves it then, and enters the second, a run later, exactly where one enters
pub record IsBandShown (f : Frame) (a : Street) (t : TimingRecord) (d : Dir) (l n : ℕ) : Type 0 where
  pub leaving : IsTrue (is_passing a t d (line_at a t d (tail d l)) n) ↔ ((part : BandPart) × IsDrawnPart f a t d l part × IsWithin part.begin part.band (pos n))
  pub entering : IsTrue (is_passing a t d (line_at a t d (tail d l) +ℤ pos (run (base t) d l)) n)
      ↔ ((part : BandPart) × IsDrawnPart f a t d l part × IsWithin (part.begin +ℤ pos part.run) part.band (pos n))

-- So it is at each moment within the cycles that are shown, of a direction with a band and on each link, however long its run is.
abbrev pub BandsAreShown : Type 0
BandsAreShown =
    (f : Frame) (a : Street) (t : TimingRecord) (d : Dir) (l n : ℕ) → IsFrame f → f.cycle ≡ cycle a (base t) → IsValid a → 2 ≤ t.unit → HasLink a l → IsGreenWay a t d → n < f.cycles * f.cycle
    → IsBandShown f a t d l n

-- And of each piece that is drawn one end is somewhere within these cycles.
abbrev pub PiecesAreSeen : Type 0
PiecesAreSeen =
    (f : Frame) (a : Street) (t : TimingRecord) (d : Dir) (l : ℕ) (part : BandPart) → IsFrame f → IsDrawnPart f a t d l part
    → (n : ℕ) × (n < f.cycles * f.cycle) × (IsWithin part.begin part.band (pos n) ⊎ IsWithin (part.begin +ℤ pos part.run) part.band (pos n))

-- None is drawn twice: those that begin at one moment are one.
abbrev pub PiecesAreOnce : Type 0
PiecesAreOnce =
    (f : Frame) (a : Street) (t : TimingRecord) (d : Dir) (l : ℕ) (e g : Edge) (m n : ℕ) → IsFrame f
    → IsTrue (is_chosen f e (band_in_cycle f (band_part f a t d e l) m)) → IsTrue (is_chosen f g (band_in_cycle f (band_part f a t d g l) n))
    → (band_in_cycle f (band_part f a t d e l) m).begin ≡ (band_in_cycle f (band_part f a t d g l) n).begin → (e ≡ g) × (m ≡ n)

-- ---- levels
-- a later signal stands above an earlier one, by the bars of a signal at least for each link
abbrev pub SignalsRise : Type 0
SignalsRise = (f : Frame) (a : Street) (i j : ℕ) → IsFrame f → IsValid a → 1 ≤ i → i ≤ j → j ≤ count a → level f a j + both_bars * (j - i) ≤ level f a i

-- where the bars of a signal begin, or where they end
abbrev pub IsEdge : Frame → Street → ℕ → ℤ → Type 0
IsEdge f a i y = (y ≡ bar_top f a Inbound i) ⊎ (y ≡ bar_top f a Outbound i +ℤ pos bar_height)

-- a piece begins at an edge of the bars of the signal where its direction enters the link, and ends at one of those where it leaves the link
pub record JoinsBars (f : Frame) (a : Street) (d : Dir) (l : ℕ) : Type 0 where
  pub begins : IsEdge f a (tail d l) (leaving_level f a d l)
  pub ends : IsEdge f a (head d l) (entering_level f a d l)

abbrev pub PiecesJoinBars : Type 0
PiecesJoinBars = (f : Frame) (a : Street) (d : Dir) (l : ℕ) → JoinsBars f a d l

-- what lies between two levels, below a bar that begins at this one or above it
pub record MissesBar (from to top : ℤ) : Type 0 where
  pub beside : ((from ≤ℤ top) × (to ≤ℤ top)) ⊎ (((top +ℤ pos bar_height) ≤ℤ from) × ((top +ℤ pos bar_height) ≤ℤ to))

-- A piece of a band, which lies between its two levels, crosses no bar of any signal and direction, however long the links are.
abbrev pub PiecesMissBars : Type 0
PiecesMissBars =
    (f : Frame) (a : Street) (d e : Dir) (l i : ℕ) → IsFrame f → IsValid a → HasLink a l → HasSignal a i
    → MissesBar (leaving_level f a d l) (entering_level f a d l) (bar_top f a e i)

-- ---- shapes
-- What is seen through the field are just the pieces, the grounds, the bands at the signals and both parts of the reds, in the cycles that are shown; and pieces and bands
-- of a direction that has one.
abbrev pub FieldIsExact : Type 0
FieldIsExact = (f : Frame) (a : Street) (t : TimingRecord) (title : Option (List ℕ)) (s : Shape) → Contains (drawn f a t title).field s ↔ IsFieldShape f a t s

-- and what is painted as a red there is one of the model
abbrev pub RedsAreReds : Type 0
RedsAreReds =
    (f : Frame) (a : Street) (t : TimingRecord) (title : Option (List ℕ)) (s : Shape) → Contains (drawn f a t title).field s → is_red s ≡ true
    → (d : Dir) × (i : ℕ) × HasSignal a i × IsRed f a (base t) d i s
