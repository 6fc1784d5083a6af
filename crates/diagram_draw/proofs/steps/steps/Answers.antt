use Rattle.std.proofs.Common.{◌∙◌, flat_map}
use Rattle.std.specs.List.{range_with_len}
use Rattle.diagram_draw.specs.Steps.{signal_steps}
use Rattle.diagram_draw.proofs.Chains.{pieced_up, ends_up}
use Rattle.diagram_draw.proofs.steps.steps.Goals as goal

pub loop-signal-preserved : goal.loop-signal-preserved
loop-signal-preserved c =
    let f = signal_steps c.args.frame c.args.artery.now c.args.timing.now in
    pieced_up c.loop-signal.signal c.loop-signal.invariant.0 _ _ f _ _ c.in_ok-extend_from_slice.ensures.items c.as_slice.ensures.value c.in_ok-steps.ensures
    c.loop-signal.invariant.1

pub returns : goal.returns
returns c =
    let f = signal_steps c.args.frame c.args.artery.now c.args.timing.now in
    c.loop-signal.invariant.1
    ∙ ends_up (λ n. flat_map f (range_with_len 1 n)) _ _ _ c.loop-signal.auto.signal-end c.loop-signal-test.false c.count-signal-end.ensures.value
