use Rattle.std.proofs.Common.{◌≡◌, ◌++◌, ◌-◌, ◌≤◌, map}
use Rattle.std.specs.List.{range_with_len}
use Rattle.diagram_draw.specs.Shapes.{captions_text}
use Rattle.diagram_draw.specs.Captions.{cycle_number}
use Rattle.diagram_draw.proofs.captions.push_cycle_numbers.Given as goal

abbrev pub invariant-loop-cycles : goal.invariant-loop-cycles
invariant-loop-cycles l = (1 ≤ l.cycles) × (l.out.items ≡ l.fn.out.items ++ captions_text (map (cycle_number l.frame) (range_with_len 1 (l.cycles - 1))))
