use Rattle.std.proofs.Common.{◌++◌, ◌∙◌, codes}
use Rattle.std.proofs.lemmas.Result.{on_ok_weaker}
use Rattle.diagram_draw.specs.Pages.{paper_text, size_text}
use Rattle.quantity_text.proofs.Pushed.{four_pushed}
use Rattle.diagram_draw.proofs.page.push_size.Goals as goal

pub returns : goal.returns
unfolding size_text
returns c =
    on_ok_weaker c.push_paper-2.result
    (λ e. four_pushed _ _ _ _ _ _ _ _ _ c.in_ok-push_text.ensures c.in_ok-push_paper.ensures c.in_ok-push_text-2.ensures e
    ∙ (λ i. c.args.out.now.items ++ (codes " width=\"" ++ (paper_text (c.shown_width.ensures.value i) ++ (codes " height=\"" ++ paper_text (c.shown_height.ensures.value i))))))
    c.push_paper-2.ensures
