use Rattle.std.proofs.Common.{◌++◌, ◌∙◌, codes, pos, ◌+◌, []}
use Rattle.std.proofs.lemmas.Result.{on_ok_weaker}
use Rattle.diagram_draw.specs.declared.paint.Letter.TheVariants.{HeadEnd}
use Rattle.diagram_draw.specs.Captions.{head_level, lengths_head, link_heads, unit_of_speed}
use Rattle.diagram_draw.specs.Shapes.{words_text}
use Rattle.diagram_draw.proofs.Chains.{three_listed}
use Rattle.diagram_draw.proofs.captions.push_link_heads.Goals as goal

pub returns : goal.returns
unfolding link_heads
returns c =
    let right = c.plot_right-right.ensures.value in
    let head = c.head.ensures.value in
    on_ok_weaker c.push_speed_head-2.result
    (λ e. three_listed _ _ _ _ _ _ _ c.in_ok-push_length_head.ensures c.in_ok-push_speed_head.ensures e
    ∙ (λ i. c.args.out.now.items ++ (words_text HeadEnd (pos (right i + 880)) head_level (lengths_head c.args.artery.now)
    ++ (words_text HeadEnd (pos (right i + 1480)) head_level (codes "out " ++ unit_of_speed (head i).units)
    ++ (words_text HeadEnd (pos (right i + 2060)) head_level (codes "in " ++ unit_of_speed (head i).units) ++ [])))))
    c.push_speed_head-2.ensures
