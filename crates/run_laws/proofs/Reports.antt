-- What the reports of a search begin with.
use Rattle.std.proofs.Common.{◌≡◌, ℕ, List, [], ◌++◌, Option, Some, None, refl, sym, ◌∙◌, ap, append_assoc}
use Rattle.std.specs.Prelude.{codes, option_map}
use Rattle.rational_theory.specs.Rational.{ℚ}
use Rattle.progression.specs.Street.{Street, count}
use Rattle.progression.specs.TimingRecord.{TimingRecord, base}
use Rattle.progression.specs.Best.{weighted_band}
use Rattle.progression.specs.declared.parts.Dir.TheVariants.{Outbound, Inbound}
use Rattle.link_theory.specs.LinkRecord.{LinkRecord, link_base}
use Rattle.certificate_model.specs.Families.{Table}
use Rattle.branch_and_bound.specs.declared.found.Stop.{Stop}
use Rattle.branch_and_bound.specs.declared.found.Verdict.TheVariants.{Stopped}
use Rattle.box_search.specs.declared.site.SitePart.{SitePart}
use Rattle.diagram_print.specs.Measures.{weighted_line, band_line, cycle_line}
use Rattle.diagram_print.specs.Offsets.{signal_lines}
use Rattle.diagram_print.specs.Speeds.{link_lines}
use Rattle.diagram_print.specs.Diagram.{diagram_lines}
use Rattle.diagram_print.specs.Report.{stop_lines, bound_line, found_lines, verdict_lines, timing_lines}
use Rattle.multi_band.specs.LinkReport.{link_band_lines}
use Rattle.run_commands.specs.Sought.{Sought}
use Rattle.run_laws.specs.Laws.{value_line, open_lines}

-- lines that begin so, after others
past_two : (x y z w : List ℕ) → x ++ (y ++ (z ++ w)) ≡ (x ++ (y ++ z)) ++ w
past_two x y z w = ap (λ l. x ++ l) (sym (append_assoc y z w)) ∙ sym (append_assoc x (y ++ z) w)

module _ (k : Sought) (a : Street) (report rest : k.Timing → List ℕ) (begins : (t : k.Timing) → report t ≡ value_line (Some ((k.objective a).worth t)) ++ rest t) where
  -- what follows the line of the value, where there is one
  abbrev pub after_value : Option k.Timing → List ℕ
  after_value None = []
  after_value (Some t) = rest t

  value_first : (timing : Option k.Timing) → found_lines (option_map report timing) ≡ value_line (option_map (k.objective a).worth timing) ++ after_value timing
  value_first None = refl
  value_first (Some t) = begins t

  pub open_first : (table : Table) (timing : Option k.Timing) (bound : ℚ) (stop : Stop SitePart)
      → verdict_lines table (count a) (option_map report timing) bound (Stopped stop) ≡ open_lines table a stop bound (option_map (k.objective a).worth timing) ++ after_value timing
  open_first table timing bound stop =
      let o = codes "verdict open\n" in
      let s = stop_lines table (count a) stop in
      let v = value_line (option_map (k.objective a).worth timing) in
      ap (λ l. o ++ (s ++ (bound_line bound ++ l))) (value_first timing) ∙ ap (λ l. o ++ l) (past_two s (bound_line bound) v (after_value timing))
      ∙ sym (append_assoc o (s ++ (bound_line bound ++ v)) (after_value timing))

-- a report's lines after that of the weighted band
abbrev pub after_weighted : Street → TimingRecord → List ℕ
after_weighted a t = (band_line a t Outbound ++ (band_line a t Inbound ++ cycle_line a (base t))) ++ (signal_lines a (base t) ++ (link_lines a (base t) ++ (codes "diagram\n" ++ diagram_lines a t)))

pub weighted_first : (a : Street) (t : TimingRecord) → timing_lines a t ≡ value_line (Some (weighted_band a t)) ++ after_weighted a t
weighted_first a t = append_assoc (weighted_line a t) (band_line a t Outbound ++ (band_line a t Inbound ++ cycle_line a (base t))) (signal_lines a (base t)
    ++ (link_lines a (base t) ++ (codes "diagram\n" ++ diagram_lines a t)))

-- and of a report of links
abbrev pub after_link_value : Street → LinkRecord → List ℕ
after_link_value a t = link_band_lines a t ++ (cycle_line a (link_base t) ++ (signal_lines a (link_base t) ++ link_lines a (link_base t)))
