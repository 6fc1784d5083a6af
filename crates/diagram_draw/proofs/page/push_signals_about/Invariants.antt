use Rattle.std.proofs.Common.{◌≡◌, ◌++◌, ◌-◌, ◌≤◌, flat_map}
use Rattle.std.specs.List.{range_with_len}
use Rattle.diagram_draw.specs.Pages.{signal_about}
use Rattle.diagram_draw.proofs.page.push_signals_about.Given as goal

abbrev pub invariant-loop-signal : goal.invariant-loop-signal
invariant-loop-signal l = (1 ≤ l.signal) × (l.out.items ≡ l.fn.out.items ++ flat_map (signal_about l.artery l.base) (range_with_len 1 (l.signal - 1)))
