use Rattle.std.proofs.Common.{◌++◌, ◌∙◌, codes}
use Rattle.std.proofs.lemmas.Result.{on_ok_weaker}
use Rattle.quantity_text.proofs.Pushed.{two_pushed}
use Rattle.diagram_draw.proofs.shape.push_line_opening.Goals as goal

pub returns : goal.returns
returns c =
    on_ok_weaker c.push_text-2.result
    (λ e. two_pushed _ _ _ _ _ c.in_ok-push_text.ensures e
    ∙ (λ i. c.args.out.now.items ++ (codes "<line class=\"" ++ c.paint_class.ensures i)))
    c.push_text-2.ensures
