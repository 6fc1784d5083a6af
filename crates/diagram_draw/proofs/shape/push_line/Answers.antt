use Rattle.std.proofs.Common.{◌++◌, ◌∙◌, codes}
use Rattle.std.specs.Fmt.{signed_decimal}
use Rattle.std.specs.Int.{w128}
use Rattle.std.proofs.lemmas.Int.{to_z-of_z}
use Rattle.std.proofs.lemmas.Result.{on_ok_weaker}
use Rattle.diagram_draw.specs.Shapes.{line_text, paint_class}
use Rattle.quantity_text.proofs.Pushed.{six_pushed}
use Rattle.diagram_draw.proofs.shape.push_line.Goals as goal

pub returns : goal.returns
unfolding line_text
returns c =
    let x = to_z-of_z w128 c.args.x c.ranges.x in
    let y = to_z-of_z w128 c.args.y c.ranges.y in
    let next_x = to_z-of_z w128 c.args.next_x c.ranges.next_x in
    let next_y = to_z-of_z w128 c.args.next_y c.ranges.next_y in
    on_ok_weaker c.push_text.result
    (λ e. six_pushed _ _ _ _ _ _ _ _ _ _ _ _ _ c.in_ok-push_line_opening.ensures c.in_ok-push_part.ensures c.in_ok-push_part-2.ensures c.in_ok-push_part-3.ensures c.in_ok-push_part-4.ensures e
    ∙ (λ i. c.args.out.now.items ++ (codes "<line class=\"" ++ (paint_class c.args.paint ++ ((codes "\" x1=\"" ++ signed_decimal (x i))
    ++ ((codes "\" y1=\"" ++ signed_decimal (y i)) ++ ((codes "\" x2=\"" ++ signed_decimal (next_x i))
    ++ ((codes "\" y2=\"" ++ signed_decimal (next_y i)) ++ codes "\"/>\n"))))))))
    c.push_text.ensures
