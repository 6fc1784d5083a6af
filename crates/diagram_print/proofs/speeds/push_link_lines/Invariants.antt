use Rattle.std.proofs.Common.{◌≡◌, ◌-◌, ◌++◌, flat_map}
use Rattle.std.specs.List.{range_with_len}
use Rattle.diagram_print.specs.Speeds.{speed_lines}
use Rattle.diagram_print.proofs.speeds.push_link_lines.Given as goal

abbrev pub invariant-loop-link : goal.invariant-loop-link
invariant-loop-link l = l.out.items ≡ l.fn.out.items ++ flat_map (speed_lines l.artery l.base) (range_with_len 1 (l.link - 1))
