use Rattle.std.proofs.Common.{◌≡◌, ◌-◌, ◌<◌, ◌≤◌, ◌^◌}
use Rattle.diagram_draw.specs.Frames.{widest_name}
use Rattle.diagram_draw.proofs.frame.widest_name.Given as goal

abbrev pub invariant-loop-signal : goal.invariant-loop-signal
invariant-loop-signal l = (1 ≤ l.signal) × (l.widest ≡ widest_name l.artery (l.signal - 1)) × (l.widest < 2 ^ 80)
