use Rattle.std.proofs.Common.{◌++◌, ◌∙◌, codes}
use Rattle.std.specs.Fmt.{decimal}
use Rattle.std.proofs.lemmas.Result.{on_ok_weaker}
use Rattle.quantity_text.proofs.Pushed.{four_pushed}
use Rattle.diagram_draw.proofs.shape.push_sized_front.Goals as goal

pub returns : goal.returns
returns c =
    on_ok_weaker c.push_number.result
    (λ e. four_pushed _ _ _ _ _ _ _ _ _ c.in_ok-push_text.ensures c.in_ok-push_text-2.ensures c.in_ok-push_text-3.ensures e
    ∙ (λ i. c.args.out.now.items ++ (codes "<text class=\"" ++ (c.letter_class.ensures i ++ (codes "\" font-size=\"" ++ decimal c.args.size)))))
    c.push_number.ensures
