use Rattle.std.proofs.Common.{arith, ◌∙◌, flat_map}
use Rattle.std.specs.List.{range_with_len}
use Rattle.diagram_draw.specs.Bands.{link_pieces}
use Rattle.diagram_draw.proofs.Chains.{pieced_up, ends_below}
use Rattle.diagram_draw.proofs.bands.all_pieces.Goals as goal

pub loop-link-preserved : goal.loop-link-preserved
loop-link-preserved c =
    pieced_up c.loop-link.link c.loop-link.invariant.0 _ _ (link_pieces c.args.frame c.args.artery.now c.args.timing.now) _ _ c.in_ok-extend_from_slice.ensures.items
    c.as_slice.ensures.value c.in_ok-pieces.ensures c.loop-link.invariant.1

pub returns : goal.returns
returns c =
    c.loop-link.invariant.1
    ∙ ends_below (λ n. flat_map (link_pieces c.args.frame c.args.artery.now c.args.timing.now) (range_with_len 1 n)) _ _ _ c.loop-link.auto.link-end
    c.loop-link-test.false (omega (arith, c.count-link-end.ensures.few)) c.count-link-end.ensures.value
