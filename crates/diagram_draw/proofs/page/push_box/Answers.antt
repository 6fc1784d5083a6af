use Rattle.std.proofs.Common.{◌++◌, ◌∙◌, codes}
use Rattle.std.specs.Fmt.{decimal}
use Rattle.std.proofs.lemmas.Result.{on_ok_weaker}
use Rattle.diagram_draw.specs.Pages.{box_text}
use Rattle.quantity_text.proofs.Pushed.{five_pushed}
use Rattle.diagram_draw.proofs.page.push_box.Goals as goal

pub returns : goal.returns
unfolding box_text
returns c =
    on_ok_weaker c.push_text-3.result
    (λ e. five_pushed _ _ _ _ _ _ _ _ _ _ _ c.in_ok-push_text.ensures c.in_ok-push_number.ensures c.in_ok-push_text-2.ensures c.in_ok-push_number-2.ensures e
    ∙ (λ i. c.args.out.now.items ++ (codes " viewBox=\"0 0 " ++ (decimal (c.page_width.ensures.value i) ++ (codes " " ++ (decimal (c.page_height.ensures.value i) ++ codes "\""))))))
    c.push_text-3.ensures
