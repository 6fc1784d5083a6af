use Rattle.std.proofs.Common.{◌≡◌, ◌++◌}
use Rattle.diagram_print.specs.Diagram.{marks}
use Rattle.diagram_print.proofs.chart.push_marks.Given as goal

abbrev pub invariant-loop-place : goal.invariant-loop-place
invariant-loop-place l = l.out.items ≡ l.fn.out.items ++ marks l.artery l.timing l.dir l.signal l.place
