use Rattle.std.proofs.Common.{◌≡◌, ◌-◌, ◌++◌, take, flat_map}
use Rattle.diagram_print.specs.Report.{ranks_text}
use Rattle.diagram_print.proofs.stopped.push_shifts.Given as goal

abbrev pub invariant-loop-signal : goal.invariant-loop-signal
invariant-loop-signal l = l.out.items ≡ l.fn.out.items ++ flat_map ranks_text (take (l.signal - 1) l.area.turns)
