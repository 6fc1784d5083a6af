use Rattle.std.proofs.Common.{◌++◌, ◌∙◌, pos, ◌+◌, []}
use Rattle.std.proofs.lemmas.Result.{on_ok_weaker}
use Rattle.progression.specs.declared.parts.Dir.TheVariants.{Inbound, Outbound}
use Rattle.diagram_draw.specs.declared.paint.Letter.TheVariants.{Number}
use Rattle.diagram_draw.specs.Captions.{lengths_text, link_row, link_speed_text}
use Rattle.diagram_draw.specs.Shapes.{words_text}
use Rattle.diagram_draw.proofs.Chains.{three_listed}
use Rattle.diagram_draw.proofs.captions.push_link_row.Goals as goal

pub returns : goal.returns
unfolding link_row
returns c =
    let y = c.link_level-y.ensures in
    let right = c.plot_right-right.ensures.value in
    on_ok_weaker c.push_speed_words-2.result
    (λ e. three_listed _ _ _ _ _ _ _ c.in_ok-push_lengths_words.ensures c.in_ok-push_speed_words.ensures e
    ∙ (λ i. c.args.out.now.items ++ (words_text Number (pos (right i + 880)) (y i) (lengths_text (c.lengths_differ-both.ensures i) (c.distance-outbound.ensures.value i)
    (c.distance-inbound.ensures.value i)) ++ (words_text Number (pos (right i + 1480)) (y i) (link_speed_text c.args.artery.now c.args.base.now Outbound c.args.link)
    ++ (words_text Number (pos (right i + 2060)) (y i) (link_speed_text c.args.artery.now c.args.base.now Inbound c.args.link) ++ [])))))
    c.push_speed_words-2.ensures
