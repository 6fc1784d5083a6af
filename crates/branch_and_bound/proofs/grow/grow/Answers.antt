use Rattle.std.proofs.lemmas.Option.{slice_get_within}
use Rattle.std.proofs.lemmas.Result.{err_from_is_err_and}
use Rattle.branch_and_bound.specs.State.{line_there}
use Rattle.branch_and_bound.proofs.Waiting.{over_all}
use Rattle.branch_and_bound.proofs.Settling.{still_waits}
use Rattle.branch_and_bound.proofs.Splicing.{taken, is_cut, is_inside, now_grown, not_other}
use Rattle.branch_and_bound.proofs.grow.grow.Goals as goal

pub open_parts-requires-clause-inside : goal.open_parts-requires-clause-inside
open_parts-requires-clause-inside g c =
    let r = g.P.Relaxation.rules c.args.relaxation.now in
    let at = (taken r _ _ _ _ _ _ _ _ _ _ _ _ _ c.requires.holds.1 c.requires.greatest.waits c.index.ensures c.in-Waiting.is).waits in
    is_inside r _ _ _ _ (is_cut r _ _ _ _ _ _ _ _ at)

pub open_parts-requires-clause-cut : goal.open_parts-requires-clause-cut
open_parts-requires-clause-cut g c =
    let r = g.P.Relaxation.rules c.args.relaxation.now in
    let at = (taken r _ _ _ _ _ _ _ _ _ _ _ _ _ c.requires.holds.1 c.requires.greatest.waits c.index.ensures c.in-Waiting.is).waits in
    (line_there r c.args.nodes.now.items c.args.greatest.now.index, is_cut r _ _ _ _ _ _ _ _ at)

pub unreachable-requires : goal.unreachable-requires
unreachable-requires g c =
    not_other c.args.nodes.now.items c.args.greatest.now.index c.args.greatest.now.bound c.index.result.now c.requires.greatest.waits c.index.ensures c.in_default.not-Waiting

pub splice-requires : goal.splice-requires
splice-requires g c = slice_get_within c.args.nodes.now.items c.args.greatest.now.index c.requires.greatest.waits.node c.requires.greatest.waits.at

pub returns-in_err-low-in-Waiting-clause-grows : goal.returns-in_err-low-in-Waiting-clause-grows
returns-in_err-low-in-Waiting-clause-grows g c =
    let r = g.P.Relaxation.rules c.args.relaxation.now in
    let nodes = c.args.nodes.now.items in let index = c.args.greatest.now.index in
    let at = (taken r _ _ _ _ _ _ _ _ _ _ _ _ _ c.requires.holds.1 c.requires.greatest.waits c.index.ensures c.in-Waiting.is).waits in
    let p = err_from_is_err_and c.from_residual.result c.from_residual.ensures.1 in
    let ends = c.in_err-low-in-Waiting.ensures.ends (line_there r nodes index) (is_cut r _ _ _ _ _ _ _ _ at) in
    rw (p.1, p.2) (still_waits r nodes index c.in-Waiting.place c.args.progress.now c.open_parts.new.progress _ at.end ends)

pub returns-clause-grows : goal.returns-clause-grows
returns-clause-grows g c =
    let r = g.P.Relaxation.rules c.args.relaxation.now in
    let nodes = c.args.nodes.now.items in let index = c.args.greatest.now.index in
    let w = taken r _ _ _ _ _ _ _ _ _ _ _ _ _ c.requires.holds.1 c.requires.greatest.waits c.index.ensures c.in-Waiting.is in
    let both = c.in_ok-low-in-Waiting.ensures.ends (line_there r nodes index) (is_cut r _ _ _ _ _ _ _ _ w.waits) in
    let spliced = c.in_ok-splice.ensures _ _ _ _ _ _ w.at in
    now_grown r nodes c.splice.new.nodes.items index _ _ _ _ _ _ _ c.args.progress.now c.open_parts.new.progress c.requires.holds.0 c.in_ok-low-in-Waiting.low c.in_ok-low-in-Waiting.high
    c.requires.holds.1 w.at w.same (over_all nodes _ c.requires.greatest) c.requires.under both spliced
