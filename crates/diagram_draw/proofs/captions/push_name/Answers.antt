use Rattle.std.proofs.Common.{◌++◌, ◌∙◌, ◌-◌, pos}
use Rattle.std.proofs.lemmas.Result.{on_ok_weaker}
use Rattle.diagram_draw.specs.declared.paint.Letter.TheVariants.{Name}
use Rattle.diagram_draw.specs.Escapes.{escaped}
use Rattle.diagram_draw.specs.Frames.{columns_left, name_left}
use Rattle.diagram_draw.specs.Shapes.{sized_words_text}
use Rattle.diagram_draw.specs.Widths.{fitting, name_size, text_width}
use Rattle.diagram_draw.proofs.captions.push_name.Goals as goal

pub returns : goal.returns
returns c =
    let name = c.signal_name-name.ensures in
    let bytes = c.as_bytes.ensures.value ∙ name in
    let width = c.text_width.ensures.value ∙ (λ i. text_width (bytes i)) in
    let size = c.fitting-size.ensures ∙ (λ i. fitting name_size (c.args.frame.left - columns_left) (width i)) in
    on_ok_weaker c.push_sized.result
    (λ e. e ∙ (λ i. c.args.out.now.items ++ sized_words_text Name (size i) (pos name_left) (c.row_level-y.ensures i) (escaped (name i))))
    c.push_sized.ensures
