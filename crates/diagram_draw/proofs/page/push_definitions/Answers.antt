use Rattle.std.proofs.Common.{◌++◌, ◌∙◌, codes}
use Rattle.std.proofs.lemmas.Result.{on_ok_weaker}
use Rattle.diagram_draw.specs.Pages.{plot_clip, definitions_text}
use Rattle.quantity_text.proofs.Pushed.{four_pushed}
use Rattle.diagram_draw.proofs.page.push_definitions.Goals as goal

pub returns : goal.returns
unfolding definitions_text
returns c =
    on_ok_weaker c.push_text-3.result
    (λ e. four_pushed _ _ _ _ _ _ _ _ _ c.in_ok-push_text.ensures c.in_ok-push_text-2.ensures c.in_ok-push_plot_clip.ensures e
    ∙ (λ i. c.args.out.now.items ++ (codes "<defs>\n" ++ (c.tile_text.ensures i ++ (plot_clip c.args.frame ++ codes "</defs>\n")))))
    c.push_text-3.ensures
