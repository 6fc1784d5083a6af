-- The measures of a drawing, in tenths of a pixel: where a moment and a signal stand.
use Rattle.std.specs.Prelude.{ℕ, zero, suc, ◌+◌, ◌-◌, ◌*◌, ◌/◌, ◌<◌, ◌≤◌, ◌^◌, min, max, nat_le, if◌then◌else◌, ℤ, pos, ◌+ℤ◌, ◌-ℤ◌, ◌*ℤ◌}
use Rattle.std.specs.Int.{int_div_euclid}
use Rattle.progression.specs.Street.{Street, count, signal_of, distance}
use Rattle.progression.specs.TimingRecord.{TimingRecord, base, band}
use Rattle.progression.specs.BaseRecord.{BaseRecord, cycle, run}
use Rattle.progression.specs.declared.parts.Dir.{Dir}
use Rattle.progression.specs.declared.parts.Dir.TheVariants.{Outbound, Inbound}
use Rattle.diagram_draw.specs.declared.frame.Frame.{Frame}
use Rattle.diagram_draw.specs.Widths.{text_width, name_size}

-- ---- the fixed ones
-- where the field of the diagram begins
abbrev pub plot_top : ℕ
plot_top = 1500

-- what is left free above the last signal and below the first
abbrev pub margin : ℕ
margin = 260

-- how high a bar is, and how high both bars of a signal are
abbrev pub bar_height : ℕ
bar_height = 90

abbrev pub both_bars : ℕ
both_bars = 180

-- ---- the others
-- how many ticks the runs of the first links take together
abbrev pub trip : BaseRecord → Dir → ℕ → ℕ
trip b d zero = 0
trip b d (suc j) = trip b d j + run b d (suc j)

-- so many ticks at most lie between a band's first tick anywhere and its last
abbrev pub reach : Street → TimingRecord → Dir → ℕ
reach a t d = trip (base t) d (count a - 1) + band t d

abbrev pub longest_reach : Street → TimingRecord → ℕ
longest_reach a t = max (reach a t Outbound) (reach a t Inbound)

-- How many cycles are shown: one more than the band's way takes, begun ones too, so that a band is seen whole; from 2 to 12.
abbrev pub cycles_for : ℕ → ℕ → ℕ
cycles_for ticks c = min 12 (max 2 ((ticks + c - 1) / c + 1))

-- how far the signal after so many links is from signal 1, outbound
abbrev pub far : Street → ℕ → ℕ
far a zero = 0
far a (suc j) = far a j + distance a Outbound (suc j)

abbrev pub street_length : Street → ℕ
street_length a = far a (count a - 1)

-- the shortest of the first links, outbound, or 30,000 if it is shorter
abbrev pub shortest : Street → ℕ → ℕ
shortest a zero = 30000
shortest a (suc j) = min (shortest a j) (distance a Outbound (suc j))

-- How high the links are together, between the bars of their signals: so that the shortest is at least 180 high, but from 4400 to 16000.
abbrev pub rise_for : ℕ → ℕ → ℕ
rise_for whole least = min 16000 (max 4400 (whole * 180 / least))

-- how far the last signal is above the first: the links, and the bars of a signal on each of them
abbrev pub span_for : Street → ℕ
span_for a = rise_for (street_length a) (shortest a (count a - 1)) + both_bars * (count a - 1)

-- the width of the widest of the first names, in thousandths of the size of its letters
abbrev pub widest_name : Street → ℕ → ℕ
widest_name a zero = 0
widest_name a (suc j) = max (widest_name a j) (text_width (signal_of a (suc j)).name)

-- Room for the names: so much as the widest of them takes in letters of the usual size, from 1092 to 4500.
abbrev pub name_room : Street → ℕ
name_room a = min 4500 (max 1092 (widest_name a (count a) * name_size / 1000 + 1))

abbrev pub name_left : ℕ
name_left = 430

-- what stands left of the field beside the names
abbrev pub columns_left : ℕ
columns_left = 1780

-- where the columns at the left of the field end, and the field begins
abbrev pub frame_of : Street → TimingRecord → Frame
frame_of a t = record {
  left = name_room a + columns_left;
  cycles = cycles_for (longest_reach a t) (cycle a (base t));
  cycle = cycle a (base t);
  span = span_for a;
}

-- ---- places
-- how wide the field is: for four cycles or fewer 9000, and for each further one a fifth of that more
abbrev pub plot_width : Frame → ℕ
plot_width f = 9000 + 1800 * (f.cycles - 4)

-- Where a moment stands that comes so many ticks after the start of the common red of signal 1: the field is as wide as the cycles
-- that are shown, and what lies between two tenths of a pixel stands at the left one.
abbrev pub x_at : Frame → ℤ → ℤ
x_at f ticks = pos f.left +ℤ int_div_euclid (ticks *ℤ pos (plot_width f)) (pos (f.cycles * f.cycle))

-- The level of signal i: above signal 1 by the bars of as many signals as there are links up to it, and by its distance from signal 1, outbound,
-- cut. So what is left of a link between the bars of its signals is to scale, however short the link is.
abbrev pub rise : Frame → Street → ℕ
rise f a = f.span - both_bars * (count a - 1)

abbrev pub level : Frame → Street → ℕ → ℕ
level f a i = plot_top + margin + f.span - both_bars * (i - 1) - far a (i - 1) * rise f a / street_length a

abbrev pub plot_bottom : Frame → ℕ
plot_bottom f = plot_top + 2 * margin + f.span

abbrev pub plot_right : Frame → ℕ
plot_right f = f.left + plot_width f

abbrev pub page_width : Frame → ℕ
page_width f = plot_right f + 2200

abbrev pub page_height : Frame → ℕ
page_height f = plot_bottom f + 1400

-- The page on paper, in tenths of a millimetre: as large as it fits 190 by 259, across where it is wider than high, and else upright. It takes
-- the one or the other whole, and of the other one so much as is to scale, cut.
abbrev pub paper_width : Frame → ℕ
paper_width f = if nat_le (page_height f) (page_width f) then 2590 else 1900

abbrev pub paper_height : Frame → ℕ
paper_height f = if nat_le (page_height f) (page_width f) then 1900 else 2590

abbrev pub shown_width : Frame → ℕ
shown_width f = min (paper_width f) (paper_height f * page_width f / page_height f)

abbrev pub shown_height : Frame → ℕ
shown_height f = min (paper_height f) (paper_width f * page_height f / page_width f)

-- ---- moments
-- a moment so many cycles earlier
abbrev pub earlier : Frame → ℕ → ℕ → ℤ
earlier f back ticks = pos ticks -ℤ pos (back * f.cycle)

-- and one so many cycles later
abbrev pub later : Frame → ℤ → ℕ → ℤ
later f ticks m = ticks +ℤ pos (m * f.cycle)

-- the numbers of a frame are in range
pub record IsFrame (f : Frame) : Type 0 where
  pub left_least : columns_left ≤ f.left
  pub left : f.left ≤ 6280
  pub cycles_least : 2 ≤ f.cycles
  pub cycles_most : f.cycles ≤ 12
  pub cycle_least : 4 ≤ f.cycle
  pub cycle_most : f.cycle < 2 ^ 92
  pub span_least : 4400 ≤ f.span
  pub span_most : f.span ≤ 20140
