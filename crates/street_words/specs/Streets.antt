-- A street in words: what holds of all of it, and a line of each signal, of the patterns of each signal with a left turn, and of each link.
use Rattle.std.specs.Prelude.{ℕ, ◌+◌, ◌-◌, ◌==◌, if◌then◌else◌, Bool, true, false, List, [], ◌++◌, codes, Option, None, Some}
use Rattle.std.specs.List.{flat_map, range_with_len}
use Rattle.std.specs.Fmt.{decimal}
use Rattle.progression.specs.Speeds.{run_low, run_high}
use Rattle.progression.specs.Street.{Street, count, signal_of, left_against, red_parts, allows, distance}
use Rattle.progression.specs.declared.parts.Units.{Units}
use Rattle.progression.specs.declared.parts.Units.TheVariants.{Metric, English}
use Rattle.progression.specs.declared.parts.Dir.{Dir}
use Rattle.progression.specs.declared.parts.Dir.TheVariants.{Outbound, Inbound}
use Rattle.quantity_text.specs.Exact.{exact_spelling}
use Rattle.artery_model.specs.Bounds.{second_version}
use Rattle.timing_words.specs.Ways.{dir_word}
use Rattle.street_words.specs.Numbers.{span_text, parts_span, length_text}
use Rattle.street_words.specs.Patterns.{turn_name, pattern_words}

abbrev pub name_of : Street → ℕ → List ℕ
name_of a i = (signal_of a i).name

abbrev pub length_word : Units → List ℕ
length_word Metric = codes "metres"
length_word English = codes "feet"

abbrev pub speed_word : Units → List ℕ
speed_word Metric = codes "km/h"
speed_word English = codes "miles an hour"

-- ---- the whole street
abbrev pub street_name : Option (List ℕ) → List ℕ
street_name None = codes "street without a name"
street_name (Some name) = codes "street " ++ name

unfoldable pub units_words : Units → List ℕ
units_words units = codes " signals, lengths in " ++ (length_word units ++ (codes ", speeds in " ++ (speed_word units ++ codes "\n")))

unfoldable pub name_line : Street → List ℕ
name_line a = street_name a.head.name ++ (codes ": " ++ (decimal (count a) ++ units_words a.head.units))

unfoldable pub cycle_line : Street → List ℕ
cycle_line a = codes "cycle " ++ (span_text a.head.cycle.least a.head.cycle.most ++ (codes " s, " ++ (decimal a.head.parts ++ (codes " parts of " ++ (parts_span a 1 ++ codes " s each\n")))))

unfoldable pub ratio_line : Street → List ℕ
ratio_line a = codes "ratio " ++ (exact_spelling a.head.ratio ++ (codes ": a second of the inbound band counts as " ++ (exact_spelling a.head.ratio ++ codes " s of the outbound one\n")))

abbrev pub equal_words : Bool → List ℕ
equal_words equal = if equal then codes " of the cycle, and the bands have to be equal\n" else codes " of the cycle, and the bands need not be equal\n"

-- the second version alone has least bands and equal bands
unfoldable pub bands_line : Street → List ℕ
bands_line a = codes "least band outbound " ++ (exact_spelling a.head.least_out ++ (codes ", inbound " ++ (exact_spelling a.head.least_in ++ equal_words a.head.equal)))

abbrev pub bands_lines : Street → List ℕ
bands_lines a = if a.head.version == second_version then bands_line a else []

unfoldable pub head_lines : Street → List ℕ
head_lines a = name_line a ++ (cycle_line a ++ (ratio_line a ++ bands_lines a))

-- ---- a signal: its times at the least cycle and at the greatest
unfoldable pub left_text : Street → Dir → ℕ → List ℕ
left_text a d i = if left_against a d i == 0 then [] else codes ", left " ++ (turn_name d ++ (parts_span a (left_against a d i) ++ codes " s"))

-- what its red leaves of the cycle
abbrev pub green_parts : Street → Dir → ℕ → ℕ
green_parts a d i = a.head.parts - red_parts a d i

unfoldable pub greens_text : Street → ℕ → List ℕ
greens_text a i = codes ", green out " ++ (parts_span a (green_parts a Outbound i) ++ (codes " s, in " ++ (parts_span a (green_parts a Inbound i) ++ codes " s\n")))

unfoldable pub red_text : Street → ℕ → List ℕ
red_text a i = codes "signal " ++ (decimal i ++ (codes ", " ++ (name_of a i ++ (codes ": red " ++ (parts_span a (signal_of a i).red ++ codes " s")))))

unfoldable pub signal_line : Street → ℕ → List ℕ
signal_line a i = red_text a i ++ (left_text a Inbound i ++ (left_text a Outbound i ++ greens_text a i))

-- ---- the patterns that it allows, where it has a left turn
unfoldable pub pattern_item : Street → ℕ → ℕ → List ℕ
pattern_item a i p = if allows a i p then codes ", pattern " ++ (decimal p ++ (codes ": " ++ pattern_words a i p)) else []

unfoldable pub pattern_items : Street → ℕ → List ℕ
pattern_items a i = pattern_item a i 1 ++ (pattern_item a i 2 ++ (pattern_item a i 3 ++ pattern_item a i 4))

unfoldable pub patterns_line : Street → ℕ → List ℕ
patterns_line a i = codes "left turns of signal " ++ (decimal i ++ (pattern_items a i ++ codes "\n"))

abbrev pub has_left : Street → ℕ → Bool
has_left a i = if left_against a Inbound i == 0 then (if left_against a Outbound i == 0 then false else true) else true

abbrev pub patterns_lines : Street → ℕ → List ℕ
patterns_lines a i = if has_left a i then patterns_line a i else []

unfoldable pub signal_lines : Street → ℕ → List ℕ
signal_lines a i = signal_line a i ++ patterns_lines a i

-- ---- a link: its lengths, and its times of travel from the greatest speed to the least
unfoldable pub way_text : Street → Dir → ℕ → List ℕ
way_text a d i = dir_word d ++ (codes " " ++ (length_text a.head.units (distance a d i) ++ (codes ", " ++ (span_text (run_low a d i) (run_high a d i) ++ codes " s"))))

unfoldable pub between_text : Street → ℕ → List ℕ
between_text a i = codes "link " ++ (decimal i ++ (codes ", " ++ (name_of a i ++ (codes " to " ++ (name_of a (i + 1) ++ codes ": ")))))

unfoldable pub link_line : Street → ℕ → List ℕ
link_line a i = between_text a i ++ (way_text a Outbound i ++ (codes ", " ++ (way_text a Inbound i ++ codes "\n")))

-- ---- all of them
unfoldable pub street_lines : Street → List ℕ
street_lines a = head_lines a ++ (flat_map (signal_lines a) (range_with_len 1 (count a)) ++ flat_map (link_line a) (range_with_len 1 (count a - 1)))
