use Rattle.std.proofs.Common.{◌≡◌, ◌≤◌, ◌++◌}
use Rattle.progression.specs.Street.{count}
use Rattle.diagram_print.specs.Diagram.{signal_rows}
use Rattle.timing_measures.proofs.Pieces.{pieces_down}
use Rattle.diagram_print.proofs.chart.push_diagram.Given as goal

abbrev pub invariant-loop-signal : goal.invariant-loop-signal
invariant-loop-signal l = (1 ≤ l.signal) × (l.out.items ≡ l.fn.out.items ++ pieces_down (signal_rows l.artery l.timing) (count l.artery) l.signal)
