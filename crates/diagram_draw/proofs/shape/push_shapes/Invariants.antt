use Rattle.std.proofs.Common.{◌≡◌, ◌++◌, take, flat_map}
use Rattle.diagram_draw.specs.Shapes.{shape_text}
use Rattle.diagram_draw.proofs.shape.push_shapes.Given as goal

abbrev pub invariant-loop-shape : goal.invariant-loop-shape
invariant-loop-shape l = l.out.items ≡ l.fn.out.items ++ flat_map shape_text (take l.shape-index l.shapes)
