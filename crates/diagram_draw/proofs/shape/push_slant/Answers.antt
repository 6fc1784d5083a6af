use Rattle.std.proofs.Common.{◌++◌, ◌∙◌, codes, rules}
use Rattle.std.specs.Int.{w128}
use Rattle.std.proofs.lemmas.Int.{to_z-of_z}
use Rattle.std.proofs.lemmas.Result.{on_ok_weaker}
use Rattle.diagram_draw.specs.Shapes.{edge_text, slant_opening, slant_text}
use Rattle.quantity_text.proofs.Pushed.{five_pushed}
use Rattle.diagram_draw.proofs.shape.push_slant.Goals as goal

pub returns : goal.returns
unfolding slant_text
returns c =
    let fl = to_z-of_z w128 c.args.from.left (search rules) in
    let fr = to_z-of_z w128 c.args.from.right (search rules) in
    let fv = to_z-of_z w128 c.args.from.level (search rules) in
    let tl = to_z-of_z w128 c.args.to.left (search rules) in
    let tr = to_z-of_z w128 c.args.to.right (search rules) in
    let tv = to_z-of_z w128 c.args.to.level (search rules) in
    on_ok_weaker c.push_text-2.result
    (λ e. five_pushed _ _ _ _ _ _ _ _ _ _ _ c.in_ok-push_around.ensures c.in_ok-push_edge.ensures c.in_ok-push_text.ensures c.in_ok-push_edge-2.ensures e
    ∙ (λ i. c.args.out.now.items ++ (slant_opening c.args.paint ++ (edge_text (fl i) (fv i) (tl i) (tv i) ++ (codes " " ++ (edge_text (tr i) (tv i) (fr i) (fv i) ++ codes "\"/>\n"))))))
    c.push_text-2.ensures
