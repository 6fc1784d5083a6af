-- What is told of a timing beside its table: the cycle and both bands.
use Rattle.std.specs.Prelude.{ℕ, if◌then◌else◌, List, ◌++◌, codes}
use Rattle.progression.specs.Street.{Street}
use Rattle.progression.specs.BaseRecord.{BaseRecord}
use Rattle.progression.specs.TimingRecord.{TimingRecord, base, band}
use Rattle.progression.specs.declared.parts.Dir.{Dir}
use Rattle.progression.specs.declared.parts.Dir.TheVariants.{Outbound, Inbound}
use Rattle.timing_measures.specs.Measures.{cycle_seconds}
use Rattle.timing_words.specs.Numbers.{tenths, seconds_text, percent_text}
use Rattle.timing_words.specs.Ways.{has_band}

unfoldable pub cycle_line : Street → BaseRecord → List ℕ
cycle_line a b = codes "cycle " ++ (tenths (cycle_seconds a b) ++ codes " s\n")

abbrev pub band_name : Dir → List ℕ
band_name Outbound = codes "band out "
band_name Inbound = codes "band in "

-- in seconds, and in hundredths of the cycle
unfoldable pub width_line : Street → TimingRecord → Dir → List ℕ
width_line a t d = band_name d ++ (seconds_text (base t) (band t d) ++ (codes " s = " ++ (percent_text a t d ++ codes " %\n")))

abbrev pub no_band_line : Dir → List ℕ
no_band_line Outbound = codes "no outbound band\n"
no_band_line Inbound = codes "no inbound band\n"

-- a direction has a band where each line of it crosses each signal in green
unfoldable pub band_line : Street → TimingRecord → Dir → List ℕ
band_line a t d = if has_band a t d then width_line a t d else no_band_line d

unfoldable pub facts_text : Street → TimingRecord → List ℕ
facts_text a t = cycle_line a (base t) ++ (band_line a t Outbound ++ band_line a t Inbound)
