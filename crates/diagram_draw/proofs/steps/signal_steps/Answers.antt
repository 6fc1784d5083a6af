use Rattle.diagram_draw.proofs.Chains.{with_more}
use Rattle.diagram_draw.proofs.steps.signal_steps.Goals as goal

pub returns : goal.returns
returns c =
    with_more _ _ _ _ _ _ c.in_ok-extend_from_slice.ensures.items c.as_slice.ensures.value c.in_ok-inbound.ensures c.in_ok-shapes.ensures
