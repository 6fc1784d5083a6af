use Rattle.std.proofs.Common.{rules, ◌≡◌, FitsSigned}
use Rattle.std.specs.Int.{w128}
use Rattle.std.proofs.lemmas.Int.{to_z-of_z}
use Rattle.diagram_draw.specs.Bars.{block, bar_in_cycle}
use Rattle.timing_measures.proofs.Pieces.{map_on, extended_one}
use Rattle.diagram_draw.proofs.bars.some_blocks.Goals as goal

pub loop-cycle-preserved : goal.loop-cycle-preserved
loop-cycle-preserved c =
    let k = c.loop-cycle.cycle in
    let moment_fits : FitsSigned w128 c.later-begin.result = search rules in
    let moment = to_z-of_z w128 _ moment_fits in
    let top_fits : FitsSigned w128 c.args.part.top = search rules in
    let top = to_z-of_z w128 c.args.part.top top_fits in
    let begin_fits : FitsSigned w128 c.args.part.begin = search rules in
    let begin = to_z-of_z w128 c.args.part.begin begin_fits in
    let block_is = c.block.ensures in
    let moment_is = c.later-begin.ensures.value in
    let one : c.block.result ≡ block c.args.frame (bar_in_cycle c.args.frame c.args.part k) = cc in
    let next = map_on (λ m. block c.args.frame (bar_in_cycle c.args.frame c.args.part m)) k in
    extended_one _ _ _ _ _ _ c.in_ok-push.ensures.items one c.loop-cycle.invariant next
