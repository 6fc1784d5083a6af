use Rattle.std.proofs.Common.{◌≡◌, ◌++◌, map}
use Rattle.std.specs.List.{range_with_len}
use Rattle.diagram_draw.specs.Shapes.{captions_text}
use Rattle.diagram_draw.specs.Captions.{second_number}
use Rattle.diagram_draw.proofs.captions.push_second_numbers.Given as goal

abbrev pub invariant-loop-line : goal.invariant-loop-line
invariant-loop-line l = l.out.items ≡ l.fn.out.items ++ captions_text (map (second_number l.frame l.base) (range_with_len 0 l.line))
