-- The lines of what a search of an artery's links found. What they share with the report of whole bands is cited from there.
use Rattle.std.specs.Prelude.{ℕ, pos, ◌*◌, ◌-◌, List, ◌++◌, codes, option_map}
use Rattle.std.specs.List.{flat_map, range_with_len}
use Rattle.rational_theory.specs.Rational.{ℚ, over}
use Rattle.progression.specs.Street.{Street, count}
use Rattle.progression.specs.BaseRecord.{cycle}
use Rattle.progression.specs.declared.parts.Dir.{Dir}
use Rattle.progression.specs.declared.parts.Dir.TheVariants.{Outbound, Inbound}
use Rattle.link_theory.specs.LinkRecord.{LinkRecord, link_base, half}
use Rattle.link_theory.specs.BestLinks.{link_value}
use Rattle.link_proof.specs.LinkFamilies.{links}
use Rattle.multi_band.specs.LinkTold.{LinkFound}
use Rattle.diagram_print.specs.Measures.{measure_line, cycle_line}
use Rattle.diagram_print.specs.Offsets.{signal_lines}
use Rattle.diagram_print.specs.Speeds.{link_name, link_lines}
use Rattle.diagram_print.specs.Report.{verdict_lines}

-- a link's band is twice its half, as a fraction of the cycle
abbrev pub link_share : Street → LinkRecord → Dir → ℕ → ℚ
link_share a t d i = over (pos (2 * half t d i)) (cycle a (link_base t))

abbrev pub link_band_line : Street → LinkRecord → Dir → ℕ → List ℕ
link_band_line a t d i = measure_line (link_name (codes " band ") d i) (link_share a t d i) 6

-- outbound and inbound
abbrev pub both_band_lines : Street → LinkRecord → ℕ → List ℕ
both_band_lines a t i = link_band_line a t Outbound i ++ link_band_line a t Inbound i

abbrev pub link_band_lines : Street → LinkRecord → List ℕ
link_band_lines a t = flat_map (both_band_lines a t) (range_with_len 1 (count a - 1))

-- the value, the bands of each link, the cycle, the signals and the speeds
abbrev pub link_timing_lines : Street → LinkRecord → List ℕ
link_timing_lines a t =
    measure_line (codes "weighted") (link_value a t) 6 ++ (link_band_lines a t ++ (cycle_line a (link_base t) ++ (signal_lines a (link_base t) ++ link_lines a (link_base t))))

abbrev pub link_report_lines : Street → LinkFound → List ℕ
link_report_lines a found = verdict_lines links (count a) (option_map (link_timing_lines a) found.timing) found.bound found.verdict
