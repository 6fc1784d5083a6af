use Rattle.diagram_draw.specs.Pages.{field_shapes}
use Rattle.diagram_draw.proofs.Chains.{with_more}
use Rattle.diagram_draw.proofs.page.field_shapes.Goals as goal

pub returns : goal.returns
unfolding field_shapes
returns c =
    with_more _ _ _ _ _ _ c.in_ok-extend_from_slice.ensures.items c.as_slice.ensures.value c.in_ok-bars.ensures c.in_ok-shapes.ensures
