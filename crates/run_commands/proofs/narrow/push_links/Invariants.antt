use Rattle.std.proofs.Common.{◌≡◌, ◌-◌, ◌++◌, flat_map}
use Rattle.std.specs.List.{range_with_len}
use Rattle.run_commands.specs.Narrow.{link_lines}
use Rattle.run_commands.proofs.narrow.push_links.Given as goal

abbrev pub invariant-loop-link : goal.invariant-loop-link
invariant-loop-link l = l.out.items ≡ l.fn.out.items ++ flat_map (link_lines l.way l.artery) (range_with_len 1 (l.link - 1))
