use Rattle.std.proofs.Common.{◌++◌, ◌∙◌, codes, pos, ◌+◌, []}
use Rattle.std.proofs.lemmas.Result.{on_ok_weaker}
use Rattle.diagram_draw.specs.declared.paint.Letter.TheVariants.{Key}
use Rattle.diagram_draw.specs.Captions.{red_words}
use Rattle.diagram_draw.specs.Shapes.{words_text}
use Rattle.diagram_draw.proofs.Chains.{two_listed}
use Rattle.diagram_draw.proofs.captions.push_red_words.Goals as goal

pub returns : goal.returns
unfolding red_words
returns c =
    let bottom = c.plot_bottom-level.ensures.value in
    on_ok_weaker c.push_words-2.result
    (λ e. two_listed _ _ _ _ _ c.in_ok-push_words.ensures e
    ∙ (λ i. c.args.out.now.items ++ (words_text Key (pos (c.args.frame.left + 480)) (pos (bottom i + 785)) (codes "common red")
    ++ (words_text Key (pos (c.args.frame.left + 1980)) (pos (bottom i + 785)) (codes "red for the opposing left turn") ++ []))))
    c.push_words-2.ensures
