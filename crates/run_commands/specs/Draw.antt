-- What `draw` finds of an artery and a file with a timing, what it writes, and what it puts.
use Rattle.std.specs.Prelude.{ℕ, List, ◌++◌, codes, Option, Some, None}
use Rattle.progression.specs.Street.{Street}
use Rattle.progression.specs.TimingRecord.{TimingRecord}
use Rattle.time_space.specs.declared.failing.Failing.{Failing}
use Rattle.diagram_draw.specs.Pages.{drawing, svg_text}
use Rattle.run_commands.specs.Lines.{fails_line}
use Rattle.run_commands.specs.Shaped.{ShapedFinds, TimedFinds}
use Rattle.run_inputs.specs.declared.cause.Cause.{Cause}

-- that it is drawn, and the rule that it breaks
abbrev pub drawn_lines : Option Failing → List ℕ
drawn_lines None = codes "drawn\n"
drawn_lines (Some f) = codes "drawn\n" ++ fails_line f

-- the picture of a timing with this title, where there is one
abbrev pub picture_of : Street → Option (List ℕ) → TimingRecord → List ℕ
picture_of a title t = svg_text (drawing a t title)

abbrev pub TimingFinds : Street → TimingRecord → Option (List ℕ) → Cause → List ℕ → Option (List ℕ) → Type 0
TimingFinds a t title c lines put = ShapedFinds a t drawn_lines (picture_of a title t) c lines put

abbrev pub DrawFinds : Street → Option TimingRecord → Option (List ℕ) → Cause → List ℕ → Option (List ℕ) → Type 0
DrawFinds a timing title c lines put = TimedFinds a (λ t. drawn_lines) (picture_of a title) timing c lines put
