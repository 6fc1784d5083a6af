use Rattle.std.proofs.Common.{◌++◌, ◌∙◌, map}
use Rattle.std.specs.List.{range_with_len}
use Rattle.diagram_draw.specs.Shapes.{caption_text, captions_text}
use Rattle.diagram_draw.specs.Captions.{second_number}
use Rattle.diagram_draw.proofs.Chains.{text_written_on, ends_at}
use Rattle.diagram_draw.proofs.captions.push_second_numbers.Goals as goal

pub loop-line-preserved : goal.loop-line-preserved
loop-line-preserved c =
    text_written_on caption_text c.args.out.now.items _ _ c.loop-line.line (second_number c.args.frame c.args.base.now) c.in_ok-push_second_number.ensures c.loop-line.invariant

pub returns : goal.returns
returns c =
    let f = second_number c.args.frame c.args.base.now in
    c.loop-line.invariant
    ∙ ends_at (λ n. c.args.out.now.items ++ captions_text (map f (range_with_len 0 n))) _ _ _ c.loop-line.auto.line-end c.loop-line-test.false c.steps_shown-line-end.ensures.value
