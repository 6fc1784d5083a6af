use Rattle.std.proofs.Common.{◌++◌, ◌∙◌, codes}
use Rattle.std.specs.Fmt.{decimal}
use Rattle.std.proofs.lemmas.Result.{on_ok_weaker}
use Rattle.diagram_draw.specs.Pages.{plot_clip, plot_height}
use Rattle.diagram_draw.proofs.Chains.{seven_pushed}
use Rattle.diagram_draw.proofs.page.push_plot_clip.Goals as goal

pub returns : goal.returns
unfolding plot_clip
returns c =
    on_ok_weaker c.push_text-4.result
    (λ e. seven_pushed _ _ _ _ _ _ _ _ _ _ _ _ _ _ _ c.in_ok-push_text.ensures c.in_ok-push_number.ensures c.in_ok-push_text-2.ensures
    c.in_ok-push_number-2.ensures c.in_ok-push_text-3.ensures c.in_ok-push_number-3.ensures e
    ∙ (λ i. c.args.out.now.items ++ (codes "<clipPath id=\"plot\"><rect x=\"" ++ (decimal c.args.frame.left ++ (codes "\" y=\"1500\" width=\""
    ++ (decimal (c.plot_width-width.ensures.value i) ++ (codes "\" height=\"" ++ (decimal (plot_height c.args.frame) ++ codes "\"/></clipPath>\n"))))))))
    c.push_text-4.ensures
