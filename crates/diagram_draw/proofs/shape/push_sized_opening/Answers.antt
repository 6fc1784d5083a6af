use Rattle.std.proofs.Common.{◌++◌, ◌∙◌, codes}
use Rattle.std.specs.Fmt.{signed_decimal}
use Rattle.std.specs.Int.{w128}
use Rattle.std.proofs.lemmas.Int.{to_z-of_z}
use Rattle.std.proofs.lemmas.Result.{on_ok_weaker}
use Rattle.diagram_draw.specs.Shapes.{sized_front}
use Rattle.quantity_text.proofs.Pushed.{four_pushed}
use Rattle.diagram_draw.proofs.shape.push_sized_opening.Goals as goal

pub returns : goal.returns
returns c =
    let x = to_z-of_z w128 c.args.x c.ranges.x in
    let y = to_z-of_z w128 c.args.y c.ranges.y in
    on_ok_weaker c.push_text.result
    (λ e. four_pushed _ _ _ _ _ _ _ _ _ c.in_ok-push_sized_front.ensures c.in_ok-push_part.ensures c.in_ok-push_part-2.ensures e
    ∙ (λ i. c.args.out.now.items ++ (sized_front c.args.letter c.args.size ++ ((codes "\" x=\"" ++ signed_decimal (x i)) ++ ((codes "\" y=\"" ++ signed_decimal (y i)) ++ codes "\">")))))
    c.push_text.ensures
