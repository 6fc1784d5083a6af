use Rattle.std.proofs.Common.{◌≡◌, ◌-◌, ◌++◌, flat_map}
use Rattle.std.specs.List.{range_with_len}
use Rattle.run_commands.specs.Half.{phase_line}
use Rattle.run_commands.proofs.half.push_phases.Given as goal

abbrev pub invariant-loop-signal : goal.invariant-loop-signal
invariant-loop-signal l = l.out.items ≡ l.fn.out.items ++ flat_map (phase_line l.artery l.timing) (range_with_len 1 (l.signal - 1))
