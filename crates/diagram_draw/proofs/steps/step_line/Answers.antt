use Rattle.std.proofs.Common.{rules, FitsSigned}
use Rattle.std.specs.Int.{w128}
use Rattle.std.proofs.lemmas.Int.{to_z-of_z}
use Rattle.diagram_draw.proofs.steps.step_line.Goals as goal

pub returns : goal.returns
returns c =
    let begin_fits : FitsSigned w128 c.step_begin.result = search rules in
    let end_fits : FitsSigned w128 c.step_end.result = search rules in
    let level_fits : FitsSigned w128 c.step_level-level.result = search rules in
    let begin = to_z-of_z w128 _ begin_fits in
    let end = to_z-of_z w128 _ end_fits in
    let level = to_z-of_z w128 _ level_fits in
    let begin_is = c.step_begin.ensures in
    let end_is = c.step_end.ensures in
    let level_is = c.step_level-level.ensures in
    cc
