-- The words of a drawing: its title, what is measured, the signals and the links beside the field, and the two axes. All numbers are
-- rounded to the nearest.
use Rattle.std.specs.Prelude.{ℕ, zero, suc, ◌+◌, ◌-◌, ◌*◌, ◌/◌, ◌%◌, ◌==◌, ◌&&◌, nat_le, if◌then◌else◌, Bool, ℤ, pos, List, [], ◌∷◌, ◌++◌, map, codes, Option, None, Some}
use Rattle.std.specs.List.{flat_map, range_with_len}
use Rattle.std.specs.Fmt.{decimal}
use Rattle.rational_theory.specs.Rational.{ℚ}
use Rattle.progression.specs.Best.{weighted_band}
use Rattle.progression.specs.Green.{is_early}
use Rattle.progression.specs.Street.{Street, count, signal_of, left_against, clearance, distance}
use Rattle.progression.specs.TimingRecord.{TimingRecord, base, band}
use Rattle.progression.specs.BaseRecord.{BaseRecord, run, pattern_of}
use Rattle.progression.specs.declared.parts.Units.{Units}
use Rattle.progression.specs.declared.parts.Units.TheVariants.{Metric, English}
use Rattle.progression.specs.declared.parts.Dir.{Dir}
use Rattle.progression.specs.declared.parts.Dir.TheVariants.{Outbound, Inbound}
use Rattle.timing_measures.specs.Measures.{seconds, cycle_seconds, offset, link_speed}
use Rattle.timing_measures.specs.Rounding.{nearest}
use Rattle.timing_words.specs.Numbers.{tenths, seconds_text, percent_text, moment_text}
use Rattle.timing_words.specs.Ways.{dir_word, has_band}
use Rattle.diagram_draw.specs.declared.paint.Letter.{Letter}
use Rattle.diagram_draw.specs.declared.paint.Letter.TheVariants as letter
use Rattle.diagram_draw.specs.declared.frame.Frame.{Frame}
use Rattle.diagram_draw.specs.Shapes.{Caption, Sized}
use Rattle.diagram_draw.specs.Escapes.{escaped}
use Rattle.diagram_draw.specs.Widths.{text_width, title_size, subtitle_size, facts_size, name_size, fitting}
use Rattle.diagram_draw.specs.Frames.{plot_top, plot_width, x_at, level, plot_right, plot_bottom, page_width, name_left, columns_left}
use Rattle.diagram_draw.specs.Axes.{steps_shown, second_at}
use Rattle.diagram_draw.specs.Steps.{has_step, step_ticks, step_begin, mark_level}

abbrev pub caption : Letter → ℤ → ℤ → List ℕ → Caption
caption l x y words = record { letter = l; x = x; y = y; words = words }

abbrev pub sized : Letter → ℕ → ℤ → ℤ → List ℕ → Sized
sized l size x y words = record { letter = l; size = size; x = x; y = y; words = words }

-- ---- numbers
-- so many hundredths or thousandths
abbrev pub hundredths_text : ℕ → List ℕ
hundredths_text n = decimal (n / 100) ++ (codes "." ++ (decimal (n % 100 / 10) ++ decimal (n % 100 % 10)))

abbrev pub thousandths_text : ℕ → List ℕ
thousandths_text n = decimal (n / 1000) ++ (codes "." ++ (decimal (n % 1000 / 100) ++ (decimal (n % 1000 % 100 / 10) ++ decimal (n % 1000 % 100 % 10))))

-- a number, to the nearest hundredth
abbrev pub hundredths : ℚ → List ℕ
hundredths x = hundredths_text (nearest x 2)

-- a width in seconds: what is less than a second, to hundredths
abbrev pub width_text : BaseRecord → ℕ → List ℕ
width_text b ticks = if nat_le b.grid ticks then seconds_text b ticks else hundredths (seconds b ticks)

abbrev pub offset_text : Street → BaseRecord → ℕ → List ℕ
offset_text a b i = moment_text a b (offset a b i)

-- ---- above the field
-- the name of the street, or what the drawing is
abbrev pub name_of : Option (List ℕ) → List ℕ
name_of None = codes "Time-space diagram"
name_of (Some name) = name

-- and, where the plan has a title, that too
abbrev pub after_name : Option (List ℕ) → List ℕ
after_name None = []
after_name (Some title) = codes ": " ++ escaped title

abbrev pub title_text : Street → Option (List ℕ) → List ℕ
title_text a title = escaped (name_of a.head.name) ++ after_name title

-- `&#183;` is a point in the middle
unfoldable pub width_facts : Street → TimingRecord → Dir → List ℕ
width_facts a t d = codes " band " ++ (width_text (base t) (band t d) ++ (codes " s = " ++ (percent_text a t d ++ codes " % of the cycle")))

unfoldable pub band_facts : Street → TimingRecord → Dir → List ℕ
band_facts a t d = if has_band a t d then codes " &#183; " ++ (dir_word d ++ width_facts a t d) else codes " &#183; no " ++ (dir_word d ++ codes " band")

unfoldable pub cycle_facts : Street → BaseRecord → List ℕ
cycle_facts a b = codes "cycle " ++ (tenths (cycle_seconds a b) ++ codes " s")

-- the weighted band, where both directions have a band
unfoldable pub weighted_facts : Street → TimingRecord → List ℕ
weighted_facts a t = if has_band a t Outbound && has_band a t Inbound then codes " &#183; weighted band " ++ thousandths_text (nearest (weighted_band a t) 3) else []

-- the cycle and the bands
unfoldable pub facts_text : Street → TimingRecord → List ℕ
facts_text a t = cycle_facts a (base t) ++ (band_facts a t Outbound ++ (band_facts a t Inbound ++ weighted_facts a t))

-- ---- the head
-- how wide the head may be
abbrev pub head_room : Frame → ℕ
head_room f = page_width f - 440

-- bold letters are wider by up to a fifth
abbrev pub bold_room : Frame → ℕ
bold_room f = head_room f * 5 / 6

abbrev pub name_head : Frame → Street → Sized
name_head f a = let name = name_of a.head.name in sized letter.Title (fitting title_size (bold_room f) (text_width name)) (pos 220) (pos 480) (escaped name)

-- the title of the plan, below the name
abbrev pub title_head : Frame → List ℕ → Sized
title_head f title = sized letter.Subtitle (fitting subtitle_size (head_room f) (text_width title)) (pos 220) (pos 800) (escaped title)

abbrev pub title_heads : Frame → Option (List ℕ) → List Sized
title_heads f None = []
title_heads f (Some title) = title_head f title ∷ []

-- what is measured, below them
abbrev pub facts_level : Option (List ℕ) → ℕ
facts_level None = 830
facts_level (Some title) = 1120

abbrev pub facts_head : Street → TimingRecord → Option (List ℕ) → Sized
facts_head a t title = sized letter.Facts facts_size (pos 220) (pos (facts_level title)) (facts_text a t)

unfoldable pub heads : Frame → Street → TimingRecord → Option (List ℕ) → List Sized
heads f a t title = name_head f a ∷ (facts_head a t title ∷ title_heads f title)

abbrev pub unit_of_length : Units → List ℕ
unit_of_length Metric = codes "m"
unit_of_length English = codes "ft"

abbrev pub unit_of_speed : Units → List ℕ
unit_of_speed Metric = codes "km/h"
unit_of_speed English = codes "mph"

abbrev pub head_level : ℤ
head_level = pos (plot_top - 90)

unfoldable pub signal_heads : Frame → List Caption
signal_heads f =
    caption letter.Head (pos name_left) head_level (codes "signal")
    ∷ caption letter.HeadEnd (pos (f.left - 760)) head_level (codes "lefts out/in")
    ∷ caption letter.HeadEnd (pos (f.left - 170)) head_level (codes "offset, s")
    ∷ []

-- how many of the first links have two lengths
abbrev pub unlike_lengths : Street → ℕ → ℕ
unlike_lengths a zero = 0
unlike_lengths a (suc j) = unlike_lengths a j + (if distance a Outbound (suc j) == distance a Inbound (suc j) then 0 else 1)

abbrev pub lengths_differ : Street → Bool
lengths_differ a = nat_le 1 (unlike_lengths a (count a - 1))

-- both lengths of each link are shown where those of some link differ
abbrev pub lengths_head : Street → List ℕ
lengths_head a = unit_of_length a.head.units ++ (if lengths_differ a then codes " out/in" else [])

unfoldable pub link_heads : Frame → Street → List Caption
link_heads f a =
    caption letter.HeadEnd (pos (plot_right f + 880)) head_level (lengths_head a)
    ∷ caption letter.HeadEnd (pos (plot_right f + 1480)) head_level (codes "out " ++ unit_of_speed a.head.units)
    ∷ caption letter.HeadEnd (pos (plot_right f + 2060)) head_level (codes "in " ++ unit_of_speed a.head.units)
    ∷ []

-- ---- the axes
abbrev pub cycles_text : ℕ → List ℕ
cycles_text m = decimal m ++ (if m == 1 then codes " cycle" else codes " cycles")

abbrev pub cycle_number : Frame → ℕ → Caption
cycle_number f m = caption letter.HeadMiddle (x_at f (pos (m * f.cycle))) head_level (cycles_text m)

abbrev pub cycle_numbers : Frame → List Caption
cycle_numbers f = map (cycle_number f) (range_with_len 1 f.cycles)

abbrev pub second_number : Frame → BaseRecord → ℕ → Caption
second_number f b k = caption letter.Axis (x_at f (pos (second_at f b k * b.grid))) (pos (plot_bottom f + 210)) (decimal (second_at f b k))

abbrev pub second_numbers : Frame → BaseRecord → List Caption
second_numbers f b = map (second_number f b) (range_with_len 0 (steps_shown f b))

-- ---- the signals
abbrev pub row_level : Frame → Street → ℕ → ℤ
row_level f a i = pos (level f a i + 50)

-- how a left turn goes that is against a direction: it lags where that one's red begins early
abbrev pub turn_word : ℕ → Bool → List ℕ
turn_word turn early = if turn == 0 then codes "-" else if early then codes "lag" else codes "lead"

-- the outbound left turn, which is against the inbound direction, and the inbound one
abbrev pub turn_text : Street → BaseRecord → Dir → ℕ → List ℕ
turn_text a b d i = turn_word (left_against a d i) (is_early d (pattern_of b i))

abbrev pub pattern_text : Street → BaseRecord → ℕ → List ℕ
pattern_text a b i = if left_against a Outbound i + left_against a Inbound i == 0 then codes "-" else turn_text a b Inbound i ++ (codes "/" ++ turn_text a b Outbound i)

abbrev pub name_caption : Frame → Street → ℕ → Sized
name_caption f a i =
    let name = (signal_of a i).name in
    sized letter.Name (fitting name_size (f.left - columns_left) (text_width name)) (pos name_left) (row_level f a i) (escaped name)

abbrev pub names : Frame → Street → List Sized
names f a = map (name_caption f a) (range_with_len 1 (count a))

unfoldable pub signal_row : Frame → Street → BaseRecord → ℕ → List Caption
signal_row f a b i =
    caption letter.Number (pos 330) (row_level f a i) (decimal i)
    ∷ caption letter.Number (pos (f.left - 760)) (row_level f a i) (pattern_text a b i)
    ∷ caption letter.Number (pos (f.left - 170)) (row_level f a i) (offset_text a b i)
    ∷ []

abbrev pub signal_rows : Frame → Street → BaseRecord → List Caption
signal_rows f a b = flat_map (signal_row f a b) (range_with_len 1 (count a))

-- ---- the links
-- half way between its signals
abbrev pub link_level : Frame → Street → ℕ → ℤ
link_level f a l = pos ((level f a l + level f a (l + 1)) / 2 + 50)

-- the length, or both
abbrev pub lengths_text : Bool → ℕ → ℕ → List ℕ
lengths_text both out back = if both then decimal out ++ (codes "/" ++ decimal back) else decimal out

-- none where a run takes no time
abbrev pub link_speed_text : Street → BaseRecord → Dir → ℕ → List ℕ
link_speed_text a b d l = if run b d l == 0 then codes "-" else tenths (link_speed a b d l)

unfoldable pub link_row : Frame → Street → BaseRecord → ℕ → List Caption
link_row f a b l =
    caption letter.Number (pos (plot_right f + 880)) (link_level f a l) (lengths_text (lengths_differ a) (distance a Outbound l) (distance a Inbound l))
    ∷ caption letter.Number (pos (plot_right f + 1480)) (link_level f a l) (link_speed_text a b Outbound l)
    ∷ caption letter.Number (pos (plot_right f + 2060)) (link_level f a l) (link_speed_text a b Inbound l)
    ∷ []

abbrev pub link_rows : Frame → Street → BaseRecord → List Caption
link_rows f a b = flat_map (link_row f a b) (range_with_len 1 (count a - 1))

-- ---- where a line steps
-- the seconds beside the mark
abbrev pub mark : Frame → Street → TimingRecord → Dir → ℕ → Caption
mark f a t d i = caption letter.Mark (step_begin f a t d i) (mark_level f a d i) (seconds_text (base t) (step_ticks a (base t) d i) ++ codes " s")

abbrev pub marks_at : Frame → Street → TimingRecord → Dir → ℕ → List Caption
marks_at f a t d i = if has_step a t d i then mark f a t d i ∷ [] else []

unfoldable pub signal_marks : Frame → Street → TimingRecord → ℕ → List Caption
signal_marks f a t i = marks_at f a t Outbound i ++ marks_at f a t Inbound i

abbrev pub marks : Frame → Street → TimingRecord → List Caption
marks f a t = flat_map (signal_marks f a t) (range_with_len 1 (count a))

-- ---- below the field
abbrev pub key_level : Frame → ℤ
key_level f = pos (plot_bottom f + 785)

unfoldable pub red_words : Frame → List Caption
red_words f =
    caption letter.Key (pos (f.left + 480)) (key_level f) (codes "common red")
    ∷ caption letter.Key (pos (f.left + 1980)) (key_level f) (codes "red for the opposing left turn")
    ∷ []

unfoldable pub band_words : Frame → List Caption
band_words f =
    caption letter.Key (pos (f.left + 4600)) (key_level f) (codes "outbound band, lower bars")
    ∷ caption letter.Key (pos (f.left + 7000)) (key_level f) (codes "inbound band, upper bars")
    ∷ []

abbrev pub axis_words : List ℕ
axis_words = codes "seconds after the start of the common red of signal 1"

abbrev pub bar_words : List ℕ
bar_words = codes "on a bar: full colour is the band, white is green beside it"

-- the clearances at the ends of the first links, in both directions
abbrev pub clearances : Street → ℕ → ℕ
clearances a zero = 0
clearances a (suc j) = clearances a j + (clearance a Outbound (suc j + 1) + clearance a Inbound (suc j))

abbrev pub note_words : List ℕ
note_words = codes "Where queues are given time to clear, vehicles trail the band by the sum of the clearances so far; a mark has the seconds at its signal."

-- what is said of queues, where some clearance is given
abbrev pub queue_notes : Frame → Street → List Caption
queue_notes f a = if clearances a (count a - 1) == 0 then [] else caption letter.Note (pos f.left) (pos (plot_bottom f + 1260)) note_words ∷ []

unfoldable pub notes : Frame → List Caption
notes f =
    caption letter.Axis (pos (f.left + plot_width f / 2)) (pos (plot_bottom f + 420)) axis_words
    ∷ caption letter.Key (pos (f.left + 480)) (pos (plot_bottom f + 1035)) bar_words
    ∷ []

-- ---- all of them but the names
unfoldable pub above : Frame → Street → List Caption
above f a = signal_heads f ++ (link_heads f a ++ cycle_numbers f)

unfoldable pub beside : Frame → Street → BaseRecord → List Caption
beside f a b = signal_rows f a b ++ link_rows f a b

unfoldable pub below : Frame → Street → BaseRecord → List Caption
below f a b = second_numbers f b ++ (red_words f ++ (band_words f ++ (notes f ++ queue_notes f a)))

unfoldable pub captions : Frame → Street → TimingRecord → List Caption
captions f a t = above f a ++ (beside f a (base t) ++ (marks f a t ++ below f a (base t)))
