use Rattle.std.proofs.Common.{rules, ◌≡◌, ◌++◌, FitsSigned}
use Rattle.std.specs.Int.{w128}
use Rattle.std.proofs.lemmas.Int.{to_z-of_z}
use Rattle.diagram_draw.specs.Bands.{chosen_piece, band_in_cycle}
use Rattle.diagram_draw.proofs.Chains.{piece_on, with_piece}
use Rattle.diagram_draw.proofs.bands.some_pieces.Goals as goal

pub loop-cycle-preserved : goal.loop-cycle-preserved
loop-cycle-preserved c =
    let k = c.loop-cycle.cycle in
    let moment_fits : FitsSigned w128 c.later-begin.result = search rules in
    let moment = to_z-of_z w128 _ moment_fits in
    let from_fits : FitsSigned w128 c.args.part.from = search rules in
    let from = to_z-of_z w128 c.args.part.from from_fits in
    let to_fits : FitsSigned w128 c.args.part.to = search rules in
    let to = to_z-of_z w128 c.args.part.to to_fits in
    let begin_fits : FitsSigned w128 c.args.part.begin = search rules in
    let begin = to_z-of_z w128 c.args.part.begin begin_fits in
    let piece_is = c.in_ok-push_chosen.ensures in
    let moment_is = c.later-begin.ensures.value in
    let one : c.push_chosen.new.shapes.items ≡ c.loop-cycle.shapes.items ++ chosen_piece c.args.frame c.args.edge (band_in_cycle c.args.frame c.args.part k) = cc in
    with_piece _ _ _ _ _ one c.loop-cycle.invariant (piece_on (λ m. chosen_piece c.args.frame c.args.edge (band_in_cycle c.args.frame c.args.part m)) k)
