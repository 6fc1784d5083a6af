use Rattle.std.proofs.Common.{◌++◌, ◌∙◌, codes}
use Rattle.std.specs.Int.{w128}
use Rattle.std.proofs.lemmas.Int.{to_z-of_z}
use Rattle.std.proofs.lemmas.Result.{on_ok_weaker}
use Rattle.diagram_draw.specs.Shapes.{corner_text}
use Rattle.quantity_text.proofs.Pushed.{three_pushed}
use Rattle.diagram_draw.proofs.shape.push_edge.Goals as goal

pub returns : goal.returns
returns c =
    let x = to_z-of_z w128 c.args.x c.ranges.x in
    let y = to_z-of_z w128 c.args.y c.ranges.y in
    let next_x = to_z-of_z w128 c.args.next_x c.ranges.next_x in
    let next_y = to_z-of_z w128 c.args.next_y c.ranges.next_y in
    on_ok_weaker c.push_corner-2.result
    (λ e. three_pushed _ _ _ _ _ _ _ c.in_ok-push_corner.ensures c.in_ok-push_text.ensures e
    ∙ (λ i. c.args.out.now.items ++ (corner_text (x i) (y i) ++ (codes " " ++ corner_text (next_x i) (next_y i)))))
    c.push_corner-2.ensures
