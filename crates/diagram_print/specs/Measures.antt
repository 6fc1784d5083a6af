-- The lines of a timing's bands and cycle.
use Rattle.std.specs.Prelude.{ℕ, List, ◌++◌, codes}
use Rattle.rational_theory.specs.Rational.{ℚ}
use Rattle.quantity_text.specs.Exact.{exact_spelling}
use Rattle.quantity_text.specs.Decimal.{decimal_spelling}
use Rattle.progression.specs.Street.{Street}
use Rattle.progression.specs.BaseRecord.{BaseRecord}
use Rattle.progression.specs.TimingRecord.{TimingRecord, base}
use Rattle.progression.specs.Best.{weighted_band}
use Rattle.progression.specs.declared.parts.Dir.{Dir}
use Rattle.progression.specs.declared.parts.Dir.TheVariants.{Outbound, Inbound}
use Rattle.timing_measures.specs.Measures.{band_share, cycle_seconds}

abbrev pub dir_name : Dir → List ℕ
dir_name Outbound = codes "out"
dir_name Inbound = codes "in"

-- a name, a fraction, and the fraction cut after so many decimal places
abbrev pub measure_text : List ℕ → ℚ → ℕ → List ℕ
measure_text name x places = name ++ (codes " " ++ (exact_spelling x ++ (codes " = " ++ decimal_spelling x places)))

abbrev pub measure_line : List ℕ → ℚ → ℕ → List ℕ
measure_line name x places = measure_text name x places ++ codes "\n"

abbrev pub weighted_line : Street → TimingRecord → List ℕ
weighted_line a t = measure_line (codes "weighted") (weighted_band a t) 6

abbrev pub band_line : Street → TimingRecord → Dir → List ℕ
band_line a t d = measure_line (codes "band " ++ dir_name d) (band_share a t d) 6

abbrev pub cycle_line : Street → BaseRecord → List ℕ
cycle_line a t = measure_line (codes "cycle") (cycle_seconds a t) 3

abbrev pub measure_lines : Street → TimingRecord → List ℕ
measure_lines a t = weighted_line a t ++ (band_line a t Outbound ++ (band_line a t Inbound ++ cycle_line a (base t)))
