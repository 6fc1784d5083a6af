use Rattle.std.proofs.Common.{◌++◌, ◌∙◌, codes}
use Rattle.std.specs.Fmt.{signed_decimal}
use Rattle.std.specs.Int.{w128}
use Rattle.std.proofs.lemmas.Int.{to_z-of_z}
use Rattle.std.proofs.lemmas.Result.{on_ok_weaker}
use Rattle.quantity_text.proofs.Pushed.{five_pushed}
use Rattle.diagram_draw.proofs.shape.push_words_opening.Goals as goal

pub returns : goal.returns
returns c =
    let x = to_z-of_z w128 c.args.x c.ranges.x in
    let y = to_z-of_z w128 c.args.y c.ranges.y in
    on_ok_weaker c.push_text-3.result
    (λ e. five_pushed _ _ _ _ _ _ _ _ _ _ _ c.in_ok-push_text.ensures c.in_ok-push_text-2.ensures c.in_ok-push_part.ensures c.in_ok-push_part-2.ensures e
    ∙ (λ i. c.args.out.now.items ++ (codes "<text class=\"" ++ (c.letter_class.ensures i ++ ((codes "\" x=\"" ++ signed_decimal (x i))
    ++ ((codes "\" y=\"" ++ signed_decimal (y i)) ++ codes "\">"))))))
    c.push_text-3.ensures
