-- The lines of a timing's signals: the left turn pattern, and the offset from the first signal.
use Rattle.std.specs.Prelude.{ℕ, List, ◌++◌, codes}
use Rattle.std.specs.List.{flat_map, range_with_len}
use Rattle.std.specs.Fmt.{decimal}
use Rattle.progression.specs.Street.{Street, count, signal_of}
use Rattle.progression.specs.BaseRecord.{BaseRecord, pattern_of}
use Rattle.timing_measures.specs.Measures.{offset}
use Rattle.diagram_print.specs.Measures.{measure_text}

abbrev pub offset_name : BaseRecord → ℕ → List ℕ
offset_name t i = codes "signal " ++ (decimal i ++ (codes " pattern " ++ (decimal (pattern_of t i) ++ codes " offset")))

abbrev pub signal_line : Street → BaseRecord → ℕ → List ℕ
signal_line a t i = measure_text (offset_name t i) (offset a t i) 3 ++ (codes " " ++ ((signal_of a i).name ++ codes "\n"))

abbrev pub signal_lines : Street → BaseRecord → List ℕ
signal_lines a t = flat_map (signal_line a t) (range_with_len 1 (count a))
