use Rattle.std.proofs.Common.{◌++◌, ◌∙◌, pos}
use Rattle.std.proofs.lemmas.Result.{on_ok_weaker}
use Rattle.diagram_draw.specs.declared.paint.Letter.TheVariants.{Title}
use Rattle.diagram_draw.specs.Escapes.{escaped}
use Rattle.diagram_draw.specs.Shapes.{sized_words_text}
use Rattle.diagram_draw.specs.Widths.{fitting, text_width, title_size}
use Rattle.diagram_draw.proofs.captions.push_name_head.Goals as goal

pub returns : goal.returns
returns c =
    let name = c.street_name-name.ensures in
    let bytes = c.as_bytes.ensures.value ∙ name in
    let width = c.text_width.ensures.value ∙ (λ i. text_width (bytes i)) in
    let size = c.fitting-size.ensures ∙ (λ i. fitting title_size (c.bold_room.ensures i) (width i)) in
    on_ok_weaker c.push_sized.result
    (λ e. e ∙ (λ i. c.args.out.now.items ++ sized_words_text Title (size i) (pos 220) (pos 480) (escaped (name i))))
    c.push_sized.ensures
