use Rattle.std.proofs.Common.{arith, ◌++◌, ◌∙◌, flat_map}
use Rattle.std.specs.List.{range_with_len}
use Rattle.diagram_draw.specs.Shapes.{caption_text, captions_text}
use Rattle.diagram_draw.specs.Captions.{link_row}
use Rattle.diagram_draw.proofs.Chains.{row_written_up, ends_below}
use Rattle.diagram_draw.proofs.captions.push_link_rows.Goals as goal

pub loop-link-preserved : goal.loop-link-preserved
loop-link-preserved c =
    row_written_up caption_text c.args.out.now.items _ _ c.loop-link.link c.loop-link.invariant.0 (link_row c.args.frame c.args.artery.now c.args.base.now)
    c.in_ok-push_link_row.ensures c.loop-link.invariant.1

pub returns : goal.returns
returns c =
    let f = link_row c.args.frame c.args.artery.now c.args.base.now in
    c.loop-link.invariant.1
    ∙ ends_below (λ n. c.args.out.now.items ++ captions_text (flat_map f (range_with_len 1 n))) _ _ _ c.loop-link.auto.link-end c.loop-link-test.false
    (omega (arith, c.count-link-end.ensures.few)) c.count-link-end.ensures.value
