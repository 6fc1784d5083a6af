-- The lines of what a search of an artery found.
use Rattle.std.specs.Prelude.{ℕ, List, ◌++◌, flat_map, codes, Option, None, Some, option_map}
use Rattle.std.specs.Fmt.{decimal, signed_decimal}
use Rattle.rational_theory.specs.Rational.{ℚ}
use Rattle.quantity_text.specs.Exact.{exact_spelling}
use Rattle.progression.specs.Street.{Street, count}
use Rattle.progression.specs.TimingRecord.{TimingRecord, base}
use Rattle.linear_theory.specs.Boxes.{Area, Span, Ranks}
use Rattle.certificate_model.specs.Families.{Table, ordinary}
use Rattle.branch_and_bound.specs.declared.found.Found.{Found}
use Rattle.branch_and_bound.specs.declared.found.Site.{Site}
use Rattle.branch_and_bound.specs.declared.found.Stop.{Stop}
use Rattle.branch_and_bound.specs.declared.found.Stop.TheVariants.{Work, Wide}
use Rattle.branch_and_bound.specs.declared.found.Verdict.{Verdict}
use Rattle.branch_and_bound.specs.declared.found.Verdict.TheVariants.{Best, NoTiming, Stopped}
use Rattle.box_search.specs.declared.site.SitePart.{SitePart}
use Rattle.diagram_print.specs.Sites.{site_line, operands_line}
use Rattle.diagram_print.specs.Measures.{measure_lines}
use Rattle.diagram_print.specs.Offsets.{signal_lines}
use Rattle.diagram_print.specs.Speeds.{link_lines}
use Rattle.diagram_print.specs.Diagram.{diagram_lines}

-- ---- why a search stopped
-- the least and the greatest block sum of a link, and the least and the greatest rank of a signal's shifts
abbrev pub span_text : Span → List ℕ
span_text s = codes " " ++ (signed_decimal s.least ++ (codes ":" ++ signed_decimal s.most))

abbrev pub ranks_text : Ranks → List ℕ
ranks_text r = codes " " ++ (decimal r.least ++ (codes ":" ++ decimal r.most))

abbrev pub loops_line : Area → List ℕ
loops_line box = codes "loops" ++ (flat_map span_text box.loops ++ codes "\n")

abbrev pub shifts_line : Area → List ℕ
shifts_line box = codes "shifts" ++ (flat_map ranks_text box.turns ++ codes "\n")

abbrev pub pivots_line : ℕ → List ℕ
pivots_line pivots = codes "pivots " ++ (decimal pivots ++ codes "\n")

-- the box, how many pivots were made on it, and the operation; rows have their names in a table of families
abbrev pub wide_lines : Table → ℕ → Site SitePart → List ℕ
wide_lines table signals site =
    codes "stopped wide\n" ++ (loops_line site.area ++ (shifts_line site.area ++ (pivots_line site.pivots ++ (site_line table signals site.part ++ operands_line site.part))))

abbrev pub stop_lines : Table → ℕ → Stop SitePart → List ℕ
stop_lines table signals (Work spent) = codes "stopped work " ++ (decimal spent ++ codes "\n")
stop_lines table signals (Wide site) = wide_lines table signals site

-- ---- the verdict, with the lines of the timing where there is one
abbrev pub bound_line : ℚ → List ℕ
bound_line bound = codes "bound " ++ (exact_spelling bound ++ codes "\n")

abbrev pub found_lines : Option (List ℕ) → List ℕ
found_lines None = codes "no timing\n"
found_lines (Some timing) = timing

-- under a verdict that claims a best timing there is one
abbrev pub best_lines : Option (List ℕ) → List ℕ
best_lines None = codes "verdict best\n"
best_lines (Some timing) = codes "verdict best\n" ++ timing

abbrev pub open_lines : Table → ℕ → Option (List ℕ) → ℚ → Stop SitePart → List ℕ
open_lines table signals timing bound stop = codes "verdict open\n" ++ (stop_lines table signals stop ++ (bound_line bound ++ found_lines timing))

abbrev pub verdict_lines : Table → ℕ → Option (List ℕ) → ℚ → Verdict SitePart → List ℕ
verdict_lines table signals timing bound Best = best_lines timing
verdict_lines table signals timing bound NoTiming = codes "verdict none\n"
verdict_lines table signals timing bound (Stopped stop) = open_lines table signals timing bound stop

-- ---- the report
abbrev pub timing_lines : Street → TimingRecord → List ℕ
timing_lines a t = measure_lines a t ++ (signal_lines a (base t) ++ (link_lines a (base t) ++ (codes "diagram\n" ++ diagram_lines a t)))

abbrev pub report_lines : Street → Found TimingRecord SitePart → List ℕ
report_lines a found = verdict_lines ordinary (count a) (option_map (timing_lines a) found.timing) found.bound found.verdict
