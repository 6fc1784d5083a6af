use Rattle.std.proofs.Common.{◌++◌, ◌∙◌, map}
use Rattle.std.specs.List.{range_with_len}
use Rattle.diagram_draw.specs.Shapes.{sized_text, sizeds_text}
use Rattle.diagram_draw.specs.Captions.{name_caption}
use Rattle.diagram_draw.proofs.Chains.{text_written_up, ends_up}
use Rattle.diagram_draw.proofs.captions.push_names.Goals as goal

pub loop-signal-preserved : goal.loop-signal-preserved
loop-signal-preserved c =
    text_written_up sized_text c.args.out.now.items _ _ c.loop-signal.signal c.loop-signal.invariant.0 (name_caption c.args.frame c.args.artery.now) c.in_ok-push_name.ensures c.loop-signal.invariant.1

pub returns : goal.returns
returns c =
    let f = name_caption c.args.frame c.args.artery.now in
    c.loop-signal.invariant.1
    ∙ ends_up (λ n. c.args.out.now.items ++ sizeds_text (map f (range_with_len 1 n))) _ _ _ c.loop-signal.auto.signal-end c.loop-signal-test.false c.count-signal-end.ensures.value
