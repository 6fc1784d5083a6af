use Rattle.std.proofs.Common.{◌∙◌, map}
use Rattle.std.specs.List.{range_with_len}
use Rattle.diagram_draw.specs.Axes.{second_line}
use Rattle.timing_measures.proofs.Pieces.{extended_one, map_on}
use Rattle.diagram_draw.proofs.Chains.{ends_at}
use Rattle.diagram_draw.proofs.axes.second_lines.Goals as goal

pub loop-line-preserved : goal.loop-line-preserved
loop-line-preserved c =
    let f = second_line c.args.frame c.args.base.now in
    extended_one _ _ _ _ _ _ c.in_ok-push.ensures.items c.second_line.ensures c.loop-line.invariant (map_on f c.loop-line.line)

pub returns : goal.returns
returns c =
    let f = second_line c.args.frame c.args.base.now in
    c.loop-line.invariant
    ∙ ends_at (λ n. map f (range_with_len 0 n)) _ _ _ c.loop-line.auto.line-end c.loop-line-test.false c.steps_shown-line-end.ensures.value
