use Rattle.std.proofs.Common.{◌∙◌, append_assoc}
use Rattle.diagram_draw.specs.Axes.{back}
use Rattle.diagram_draw.proofs.Chains.{with_one, with_more}
use Rattle.diagram_draw.proofs.axes.back.Goals as goal

pub returns : goal.returns
unfolding back
returns c =
    let one = with_one _ _ _ _ _ c.in_ok-push.ensures.items c.paper.ensures c.new-shapes.ensures.items in
    let two = with_one _ _ _ _ _ c.in_ok-push-2.ensures.items c.plot.ensures one in
    let three = with_more _ _ _ _ _ _ c.in_ok-extend_from_slice.ensures.items c.as_slice.ensures.value c.in_ok-seconds.ensures two in
    let four = with_more _ _ _ _ _ _ c.in_ok-extend_from_slice-2.ensures.items c.as_slice-2.ensures.value c.in_ok-cycles.ensures three in
    let five = with_more _ _ _ _ _ _ c.in_ok-extend_from_slice-3.ensures.items c.as_slice-3.ensures.value c.in_ok-levels.ensures four in
    five ∙ simp append_assoc
