use Rattle.std.proofs.Common.{◌++◌, ◌∙◌, codes}
use Rattle.std.proofs.lemmas.Result.{on_ok_weaker}
use Rattle.timing_measures.specs.Rounding.{nearest}
use Rattle.diagram_draw.specs.Captions.{thousandths_text}
use Rattle.quantity_text.proofs.Pushed.{two_pushed}
use Rattle.diagram_draw.proofs.captions.push_weighted.Goals as goal

pub returns : goal.returns
returns c =
    on_ok_weaker c.push_thousandths.result
    (λ e. two_pushed _ _ _ _ _ c.in_ok-push_text.ensures e
    ∙ (λ i. c.args.out.now.items ++ (codes " &#183; weighted band " ++ thousandths_text (nearest (c.value.ensures.value i) 3))))
    c.push_thousandths.ensures
