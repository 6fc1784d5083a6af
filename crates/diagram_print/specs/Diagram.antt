-- The time-space diagram in text: a cycle at each signal and direction, in 60 characters.
use Rattle.std.specs.Prelude.{ℕ, ◌*◌, ◌/◌, pos, ℤ, nat_le, Bool, true, false, List, ◌++◌, map, reverse, codes}
use Rattle.std.specs.List.{flat_map, range_with_len}
use Rattle.std.specs.Fmt.{decimal}
use Rattle.progression.specs.Street.{Street, count}
use Rattle.progression.specs.TimingRecord.{TimingRecord, base, band}
use Rattle.progression.specs.BaseRecord.{cycle}
use Rattle.progression.specs.Green.{since, is_green, red_start, red_ticks}
use Rattle.progression.specs.Lines.{line_at}
use Rattle.progression.specs.declared.parts.Dir.{Dir}
use Rattle.progression.specs.declared.parts.Dir.TheVariants.{Outbound, Inbound}
use Rattle.diagram_print.specs.Measures.{dir_name}

-- ---- one character
-- the tick of the character at a place, from 0
abbrev pub tick_at : ℕ → ℕ → ℕ
tick_at cycle place = place * cycle / 60

abbrev pub is_green_at : Street → TimingRecord → Dir → ℕ → ℤ → Bool
is_green_at a t d i tick = is_green (cycle a (base t)) (red_start a (base t) d i) (red_ticks a (base t) d i) tick

abbrev pub is_in_band : Street → TimingRecord → Dir → ℕ → ℤ → Bool
is_in_band a t d i tick = nat_le (since (cycle a (base t)) (line_at a t d i) tick) (band t d)

-- `>` is the byte 62, and `<` the byte 60
abbrev pub arrow : Dir → ℕ
arrow Outbound = 62
arrow Inbound = 60

-- by whether the tick is green, and whether it is in the band: `#`, the byte 35, an arrow, or `=`, the byte 61
abbrev pub mark_of : Dir → Bool → Bool → ℕ
mark_of d false band = 35
mark_of d true true = arrow d
mark_of d true false = 61

abbrev pub mark_at : Street → TimingRecord → Dir → ℕ → ℕ → ℕ
mark_at a t d i place = let tick = pos (tick_at (cycle a (base t)) place) in mark_of d (is_green_at a t d i tick) (is_in_band a t d i tick)

-- ---- the lines
-- so many characters, from the first on
abbrev pub marks : Street → TimingRecord → Dir → ℕ → ℕ → List ℕ
marks a t d i places = map (mark_at a t d i) (range_with_len 0 places)

-- all 60
unfoldable pub all_marks : Street → TimingRecord → Dir → ℕ → List ℕ
all_marks a t d i = marks a t d i 60

abbrev pub diagram_line : Street → TimingRecord → Dir → ℕ → List ℕ
diagram_line a t d i = decimal i ++ (codes " " ++ (dir_name d ++ (codes " " ++ (all_marks a t d i ++ codes "\n"))))

abbrev pub signal_rows : Street → TimingRecord → ℕ → List ℕ
signal_rows a t i = diagram_line a t Outbound i ++ diagram_line a t Inbound i

-- from the last signal down to the first
abbrev pub diagram_lines : Street → TimingRecord → List ℕ
diagram_lines a t = flat_map (signal_rows a t) (reverse (range_with_len 1 (count a)))
