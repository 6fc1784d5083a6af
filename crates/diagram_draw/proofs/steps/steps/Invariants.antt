use Rattle.std.proofs.Common.{◌≡◌, ◌-◌, ◌≤◌, flat_map}
use Rattle.std.specs.List.{range_with_len}
use Rattle.diagram_draw.specs.Steps.{signal_steps}
use Rattle.diagram_draw.proofs.steps.steps.Given as goal

abbrev pub invariant-loop-signal : goal.invariant-loop-signal
invariant-loop-signal l = (1 ≤ l.signal) × (l.shapes.items ≡ flat_map (signal_steps l.frame l.artery l.timing) (range_with_len 1 (l.signal - 1)))
