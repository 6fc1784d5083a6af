use Rattle.std.proofs.Common.{◌∙◌, map}
use Rattle.std.specs.List.{range_with_len}
use Rattle.diagram_draw.specs.Axes.{level_line}
use Rattle.diagram_draw.proofs.Chains.{mapped_up, ends_up}
use Rattle.diagram_draw.proofs.axes.level_lines.Goals as goal

pub loop-signal-preserved : goal.loop-signal-preserved
loop-signal-preserved c =
    let f = level_line c.args.frame c.args.artery.now in
    mapped_up c.loop-signal.signal c.loop-signal.invariant.0 _ _ f _ c.in_ok-push.ensures.items c.level_line.ensures c.loop-signal.invariant.1

pub returns : goal.returns
returns c =
    let f = level_line c.args.frame c.args.artery.now in
    c.loop-signal.invariant.1
    ∙ ends_up (λ n. map f (range_with_len 1 n)) _ _ _ c.loop-signal.auto.signal-end c.loop-signal-test.false c.count-signal-end.ensures.value
