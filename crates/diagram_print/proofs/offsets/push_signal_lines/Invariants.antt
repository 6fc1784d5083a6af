use Rattle.std.proofs.Common.{◌≡◌, ◌-◌, ◌++◌, flat_map}
use Rattle.std.specs.List.{range_with_len}
use Rattle.diagram_print.specs.Offsets.{signal_line}
use Rattle.diagram_print.proofs.offsets.push_signal_lines.Given as goal

abbrev pub invariant-loop-signal : goal.invariant-loop-signal
invariant-loop-signal l = l.out.items ≡ l.fn.out.items ++ flat_map (signal_line l.artery l.base) (range_with_len 1 (l.signal - 1))
