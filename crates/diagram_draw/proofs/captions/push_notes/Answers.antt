use Rattle.std.proofs.Common.{◌++◌, ◌∙◌, pos, ◌+◌, ◌/◌, []}
use Rattle.std.proofs.lemmas.Result.{on_ok_weaker}
use Rattle.diagram_draw.specs.declared.paint.Letter.TheVariants.{Axis, Key}
use Rattle.diagram_draw.specs.Captions.{notes}
use Rattle.diagram_draw.specs.Shapes.{words_text}
use Rattle.diagram_draw.proofs.Chains.{two_listed}
use Rattle.diagram_draw.proofs.captions.push_notes.Goals as goal

pub returns : goal.returns
unfolding notes
returns c =
    let bottom = c.plot_bottom-bottom.ensures.value in
    let width = c.plot_width.ensures.value in
    on_ok_weaker c.push_words-2.result
    (λ e. two_listed _ _ _ _ _ c.in_ok-push_words.ensures e
    ∙ (λ i. c.args.out.now.items ++ (words_text Axis (pos (c.args.frame.left + width i / 2)) (pos (bottom i + 420)) (c.axis_words.ensures i)
    ++ (words_text Key (pos (c.args.frame.left + 480)) (pos (bottom i + 1035)) (c.bar_words.ensures i) ++ []))))
    c.push_words-2.ensures
