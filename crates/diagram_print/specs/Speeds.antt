-- The lines of a timing's links: the speed of the band, in the units of the description.
use Rattle.std.specs.Prelude.{ℕ, ◌-◌, List, ◌++◌, codes}
use Rattle.std.specs.List.{flat_map, range_with_len}
use Rattle.std.specs.Fmt.{decimal}
use Rattle.progression.specs.Street.{Street, count}
use Rattle.progression.specs.BaseRecord.{BaseRecord}
use Rattle.progression.specs.declared.parts.Dir.{Dir}
use Rattle.progression.specs.declared.parts.Dir.TheVariants.{Outbound, Inbound}
use Rattle.timing_measures.specs.Measures.{link_speed}
use Rattle.diagram_print.specs.Measures.{dir_name, measure_line}

-- what stands before a measure of a direction on a link
abbrev pub link_name : List ℕ → Dir → ℕ → List ℕ
link_name between d i = codes "link " ++ (decimal i ++ (between ++ dir_name d))

abbrev pub speed_line : Street → BaseRecord → Dir → ℕ → List ℕ
speed_line a t d i = measure_line (link_name (codes " ") d i) (link_speed a t d i) 3

-- outbound and inbound
abbrev pub speed_lines : Street → BaseRecord → ℕ → List ℕ
speed_lines a t i = speed_line a t Outbound i ++ speed_line a t Inbound i

abbrev pub link_lines : Street → BaseRecord → List ℕ
link_lines a t = flat_map (speed_lines a t) (range_with_len 1 (count a - 1))
