use Rattle.std.proofs.Common.{◌∙◌, map, refl}
use Rattle.std.specs.List.{range_with_len}
use Rattle.diagram_draw.specs.Axes.{cycle_line}
use Rattle.timing_measures.proofs.Pieces.{extended_one, map_on}
use Rattle.diagram_draw.proofs.Chains.{ends_at}
use Rattle.diagram_draw.proofs.axes.cycle_lines.Goals as goal

pub loop-cycles-preserved : goal.loop-cycles-preserved
loop-cycles-preserved c =
    let f = cycle_line c.args.frame in
    extended_one _ _ _ _ _ _ c.in_ok-push.ensures.items c.cycle_line.ensures c.loop-cycles.invariant (map_on f c.loop-cycles.cycles)

pub returns : goal.returns
returns c =
    let f = cycle_line c.args.frame in
    c.loop-cycles.invariant ∙ ends_at (λ n. map f (range_with_len 0 n)) _ _ _ c.loop-cycles.auto.cycles-end c.loop-cycles-test.false refl
