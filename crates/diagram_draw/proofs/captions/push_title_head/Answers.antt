use Rattle.std.proofs.Common.{◌++◌, ◌∙◌, pos}
use Rattle.std.proofs.lemmas.Result.{on_ok_weaker}
use Rattle.diagram_draw.specs.declared.paint.Letter.TheVariants.{Subtitle}
use Rattle.diagram_draw.specs.Escapes.{escaped}
use Rattle.diagram_draw.specs.Shapes.{sized_words_text}
use Rattle.diagram_draw.specs.Widths.{fitting, subtitle_size, text_width}
use Rattle.diagram_draw.proofs.captions.push_title_head.Goals as goal

pub returns : goal.returns
returns c =
    let width = c.text_width.ensures.value ∙ (λ i. text_width (c.as_bytes.ensures.value i)) in
    let size = c.fitting-size.ensures ∙ (λ i. fitting subtitle_size (c.head_room.ensures.value i) (width i)) in
    on_ok_weaker c.push_sized.result
    (λ e. e ∙ (λ i. c.args.out.now.items ++ sized_words_text Subtitle (size i) (pos 220) (pos 800) (escaped c.args.title.now)))
    c.push_sized.ensures
