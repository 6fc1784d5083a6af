use Rattle.std.proofs.Common.{◌++◌, ◌∙◌, ap, codes, append_assoc, ℕ, List}
use Rattle.std.specs.Fmt.{signed_decimal}
use Rattle.std.specs.Int.{w128}
use Rattle.std.proofs.lemmas.Int.{to_z-of_z}
use Rattle.std.proofs.lemmas.Result.{on_ok_weaker}
use Rattle.quantity_text.proofs.Pushed.{four_pushed}
use Rattle.diagram_draw.proofs.shape.push_rect_edges.Goals as goal

pub returns : goal.returns
returns c =
    let left = to_z-of_z w128 c.args.left c.ranges.left in
    let top = to_z-of_z w128 c.args.top c.ranges.top in
    let right = to_z-of_z w128 c.args.right c.ranges.right in
    let bottom = to_z-of_z w128 c.args.bottom c.ranges.bottom in
    on_ok_weaker c.push_part-3.result
    (λ e. four_pushed _ _ _ _ _ _ _ _ _ c.in_ok-push_corner.ensures c.in_ok-push_part.ensures c.in_ok-push_part-2.ensures e
    ∙ (λ i. c.args.out.now.items ++ ((signed_decimal (left i) ++ (codes "," ++ signed_decimal (top i)))
    ++ ((codes "H" ++ signed_decimal (right i)) ++ ((codes "V" ++ signed_decimal (bottom i)) ++ (codes "H" ++ signed_decimal (left i))))))
    ∙ ap (λ (w : List ℕ). c.args.out.now.items ++ w) (append_assoc (signed_decimal c.args.left) (codes "," ++ signed_decimal c.args.top) _))
    c.push_part-3.ensures
