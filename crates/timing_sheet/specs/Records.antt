-- The table of a timing: a head and a record for each signal, of 19 fields each.
use Rattle.std.specs.Prelude.{ℕ, ◌-◌, ◌*◌, ◌==◌, nat_lt, if◌then◌else◌, List, [], ◌∷◌, ◌++◌, codes}
use Rattle.std.specs.List.{flat_map, range_with_len}
use Rattle.std.specs.Fmt.{decimal}
use Rattle.csv.specs.Writing.{default_writer, row_text}
use Rattle.progression.specs.Green.{red_ticks}
use Rattle.progression.specs.Street.{Street, count, signal_of, left_against, distance}
use Rattle.progression.specs.TimingRecord.{TimingRecord, base}
use Rattle.progression.specs.BaseRecord.{BaseRecord, cycle, run, pattern_of}
use Rattle.progression.specs.declared.parts.Units.{Units}
use Rattle.progression.specs.declared.parts.Units.TheVariants.{Metric, English}
use Rattle.progression.specs.declared.parts.Dir.{Dir}
use Rattle.progression.specs.declared.parts.Dir.TheVariants.{Outbound, Inbound}
use Rattle.description_reader.specs.declared.measure.Reference.{Reference}
use Rattle.timing_measures.specs.Measures.{seconds, link_speed}
use Rattle.timing_words.specs.Numbers.{tenths, seconds_text, moment_text}
use Rattle.timing_words.specs.Ways.{has_band}
use Rattle.street_words.specs.Patterns.{pattern_words}
use Rattle.table_text.specs.Cells.{name_cell}
use Rattle.timing_sheet.specs.Moments.{offset_ticks, first_ticks, last_ticks}

-- ---- the head
unfoldable pub signal_heads : List ℕ
signal_heads = codes "signal,name,pattern,offset_s,red_s,left_out_s,left_in_s,green_out_s,green_in_s,out_from_s,out_to_s,in_from_s,in_to_s,"

unfoldable pub link_heads : Units → List ℕ
link_heads Metric = codes "length_out_m,travel_out_s,speed_out_kmh,length_in_m,travel_in_s,speed_in_kmh\n"
link_heads English = codes "length_out_ft,travel_out_s,speed_out_mph,length_in_ft,travel_in_s,speed_in_mph\n"

abbrev pub head_text : Units → List ℕ
head_text units = signal_heads ++ link_heads units

-- the left turns of a signal under its pattern, the outbound one first, as far as there are such
unfoldable pub pattern_text : Street → BaseRecord → ℕ → List ℕ
pattern_text a b i = pattern_words a i (pattern_of b i)

-- ---- fields of a signal
-- so many parts of the cycle, in seconds
abbrev pub parts_text : BaseRecord → ℕ → List ℕ
parts_text b parts = seconds_text b (parts * b.unit)

-- a direction's green, which is what its red leaves of the cycle
abbrev pub green_text : Street → BaseRecord → Dir → ℕ → List ℕ
green_text a b d i = seconds_text b (cycle a b - red_ticks a b d i)

unfoldable pub name_fields : Street → BaseRecord → ℕ → List (List ℕ)
name_fields a b i = decimal i ∷ name_cell (signal_of a i).name ∷ pattern_text a b i ∷ []

unfoldable pub time_fields : Street → BaseRecord → Reference → ℕ → List (List ℕ)
time_fields a b r i = moment_text a b (seconds b (offset_ticks a b r i)) ∷ parts_text b (signal_of a i).red ∷ []

unfoldable pub turn_fields : Street → BaseRecord → ℕ → List (List ℕ)
turn_fields a b i = parts_text b (left_against a Inbound i) ∷ parts_text b (left_against a Outbound i) ∷ []

unfoldable pub green_fields : Street → BaseRecord → ℕ → List (List ℕ)
green_fields a b i = green_text a b Outbound i ∷ green_text a b Inbound i ∷ []

-- when a direction's band begins and ends there, empty where it has none
unfoldable pub window_fields : Street → TimingRecord → Reference → Dir → ℕ → List (List ℕ)
window_fields a t r d i = if has_band a t d then moment_text a (base t) (seconds (base t) (first_ticks a t r d i)) ∷ moment_text a (base t) (seconds (base t) (last_ticks a t r d i)) ∷ [] else [] ∷ [] ∷ []

-- ---- fields of a link
-- none where a run takes no time
abbrev pub speed_text : Street → BaseRecord → Dir → ℕ → List ℕ
speed_text a b d i = if run b d i == 0 then [] else tenths (link_speed a b d i)

unfoldable pub way_fields : Street → BaseRecord → Dir → ℕ → List (List ℕ)
way_fields a b d i = decimal (distance a d i) ∷ seconds_text b (run b d i) ∷ speed_text a b d i ∷ []

abbrev pub no_way_fields : List (List ℕ)
no_way_fields = [] ∷ [] ∷ [] ∷ []

-- the link to the next signal, and empty at the last one
unfoldable pub link_fields : Street → BaseRecord → ℕ → List (List ℕ)
link_fields a b i = if nat_lt i (count a) then way_fields a b Outbound i ++ way_fields a b Inbound i else no_way_fields ++ no_way_fields

-- ---- the table
unfoldable pub signal_fields : Street → BaseRecord → Reference → ℕ → List (List ℕ)
signal_fields a b r i = name_fields a b i ++ (time_fields a b r i ++ (turn_fields a b i ++ green_fields a b i))

unfoldable pub band_fields : Street → TimingRecord → Reference → ℕ → List (List ℕ)
band_fields a t r i = window_fields a t r Outbound i ++ window_fields a t r Inbound i

unfoldable pub record_of : Street → TimingRecord → Reference → ℕ → List (List ℕ)
record_of a t r i = signal_fields a (base t) r i ++ (band_fields a t r i ++ link_fields a (base t) i)

abbrev pub record_text : Street → TimingRecord → Reference → ℕ → List ℕ
record_text a t r i = row_text default_writer (record_of a t r i)

unfoldable pub sheet_text : Street → TimingRecord → Reference → List ℕ
sheet_text a t r = head_text a.head.units ++ flat_map (record_text a t r) (range_with_len 1 (count a))
