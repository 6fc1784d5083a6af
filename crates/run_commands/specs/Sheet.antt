-- What `sheet` finds of an artery and a file with a timing, what it writes, and what it puts.
use Rattle.std.specs.Prelude.{ℕ, List, ◌++◌, Option}
use Rattle.progression.specs.Street.{Street}
use Rattle.progression.specs.TimingRecord.{TimingRecord}
use Rattle.description_reader.specs.declared.measure.Reference.{Reference}
use Rattle.time_space.specs.declared.failing.Failing.{Failing}
use Rattle.diagram_print.specs.Measures.{weighted_line}
use Rattle.timing_sheet.specs.Facts.{facts_text}
use Rattle.timing_sheet.specs.Records.{sheet_text}
use Rattle.run_commands.specs.Hold.{verdict_line}
use Rattle.run_commands.specs.Shaped.{ShapedFinds, TimedFinds}
use Rattle.run_inputs.specs.declared.cause.Cause.{Cause}

-- the cycle and the bands, the weighted band, and what `hold` says
abbrev pub sheet_lines : Street → TimingRecord → Option Failing → List ℕ
sheet_lines a t broken = facts_text a t ++ (weighted_line a t ++ verdict_line broken)

-- the table of a timing, counted from the moment that the reference names
abbrev pub table_of : Street → Reference → TimingRecord → List ℕ
table_of a r t = sheet_text a t r

abbrev pub TimingFinds : Street → TimingRecord → Reference → Cause → List ℕ → Option (List ℕ) → Type 0
TimingFinds a t r c lines put = ShapedFinds a t (sheet_lines a t) (table_of a r t) c lines put

abbrev pub SheetFinds : Street → Option TimingRecord → Reference → Cause → List ℕ → Option (List ℕ) → Type 0
SheetFinds a timing r c lines put = TimedFinds a (sheet_lines a) (table_of a r) timing c lines put
