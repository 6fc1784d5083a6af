use Rattle.std.proofs.Common.{◌≡◌, ◌-◌, ◌++◌, take, flat_map}
use Rattle.diagram_print.specs.Report.{span_text}
use Rattle.diagram_print.proofs.stopped.push_loops.Given as goal

abbrev pub invariant-loop-link : goal.invariant-loop-link
invariant-loop-link l = l.out.items ≡ l.fn.out.items ++ flat_map span_text (take (l.link - 1) l.area.loops)
