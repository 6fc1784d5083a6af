use Rattle.std.proofs.Common.{◌++◌, ◌∙◌, codes, pos}
use Rattle.std.proofs.lemmas.Result.{on_ok_weaker}
use Rattle.diagram_draw.specs.Escapes.{escaped}
use Rattle.diagram_draw.specs.Shapes.{sized_opening, sized_words_text}
use Rattle.quantity_text.proofs.Pushed.{three_pushed}
use Rattle.diagram_draw.proofs.captions.push_sized.Goals as goal

pub returns : goal.returns
unfolding sized_words_text
returns c =
    on_ok_weaker c.push_words_end.result
    (λ e. three_pushed _ _ _ _ _ _ _ c.in_ok-push_size_opening.ensures c.in_ok-push_escaped.ensures e
    ∙ (λ i. c.args.out.now.items ++ (sized_opening c.args.letter c.args.size (pos c.args.x) (pos c.args.y) ++ (escaped (c.as_bytes.ensures.value i) ++ codes "</text>\n"))))
    c.push_words_end.ensures
