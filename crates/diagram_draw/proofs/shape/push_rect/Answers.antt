use Rattle.std.proofs.Common.{◌++◌, ◌∙◌, codes}
use Rattle.std.specs.Int.{w128}
use Rattle.std.proofs.lemmas.Int.{to_z-of_z}
use Rattle.std.proofs.lemmas.Result.{on_ok_weaker}
use Rattle.diagram_draw.specs.Shapes.{rect_edges, rect_opening, rect_text}
use Rattle.quantity_text.proofs.Pushed.{three_pushed}
use Rattle.diagram_draw.proofs.shape.push_rect.Goals as goal

pub returns : goal.returns
unfolding rect_text
returns c =
    let left = to_z-of_z w128 c.args.left c.ranges.left in
    let top = to_z-of_z w128 c.args.top c.ranges.top in
    let right = to_z-of_z w128 c.args.right c.ranges.right in
    let bottom = to_z-of_z w128 c.args.bottom c.ranges.bottom in
    on_ok_weaker c.push_text.result
    (λ e. three_pushed _ _ _ _ _ _ _ c.in_ok-push_around.ensures c.in_ok-push_rect_edges.ensures e
    ∙ (λ i. c.args.out.now.items ++ (rect_opening c.args.paint ++ (rect_edges (left i) (top i) (right i) (bottom i) ++ codes "z\"/>\n"))))
    c.push_text.ensures
