use Rattle.std.proofs.Common.{◌≡◌, ◌++◌, ◌-◌, ◌≤◌, flat_map}
use Rattle.std.specs.List.{range_with_len}
use Rattle.diagram_draw.specs.Shapes.{captions_text}
use Rattle.diagram_draw.specs.Captions.{signal_row}
use Rattle.diagram_draw.proofs.captions.push_signal_rows.Given as goal

abbrev pub invariant-loop-signal : goal.invariant-loop-signal
invariant-loop-signal l = (1 ≤ l.signal) × (l.out.items ≡ l.fn.out.items ++ captions_text (flat_map (signal_row l.frame l.artery l.base) (range_with_len 1 (l.signal - 1))))
