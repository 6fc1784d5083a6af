use Rattle.box_search.proofs.Openings.{read_timed, read_cut, read_stuck}
use Rattle.box_search.proofs.Opens.{ok_map}
use Rattle.box_search.proofs.Reading.{point_read}
use Rattle.box_search.proofs.opening.read_end.Goals as goal

pub read-requires-clause-vertex : goal.read-requires-clause-vertex
read-requires-clause-vertex g c =
    let (line, e, r) = c.requires.run in
    (line, e, r.move_is, point_read (g.P.Sought.program c.args.program.now) line c.args.tableau.now c.in_ok-point.point.values.items r c.in_ok-point.ensures.values)

pub returns-in-Timing : goal.returns-in-Timing
returns-in-Timing g c = λ line e r q.
    read_timed (g.P.Sought.program c.args.program.now) (g.P.Sought.meaning c.args.program.now) (g.P.Sought.IsFor c.args.program.now) c.known_program.ensures.ends
    line c.args.area.now e c.args.tableau.now r
    c.args.covering.leaf c.requires.covering.leaf_is c.requires.covering.fits c.args.covering.bound c.requires.covering.bound_is c.in_ok-point.point
    c.in_ok-point.ensures.values c.in_ok-timing.field-0 c.in-Timing.timing c.requires.boxed c.in_ok-timing.ensures c.in-Timing.is

pub returns-in-SplitAt : goal.returns-in-SplitAt
returns-in-SplitAt g c = ok_map c.split_end.result _ _ (λ opened cut line e r q.
    read_cut (g.P.Sought.program c.args.program.now) (g.P.Sought.meaning c.args.program.now) (g.P.Sought.IsFor c.args.program.now) c.known_program.ensures.ends
    line c.args.area.now e c.args.tableau.now r
    c.args.covering.leaf c.requires.covering.leaf_is c.requires.covering.fits c.args.covering.bound c.requires.covering.bound_is c.in_ok-point.point
    c.in_ok-point.ensures.values c.in_ok-timing.field-0 c.in-SplitAt.place c.args.pivots opened c.known_program.ensures.sound cut
    c.in_ok-timing.ensures c.in-SplitAt.is) c.split_end.ensures

pub returns-in-Wide : goal.returns-in-Wide
returns-in-Wide g c = λ line e r q.
    read_stuck (g.P.Sought.program c.args.program.now) (g.P.Sought.meaning c.args.program.now) (g.P.Sought.IsFor c.args.program.now) c.known_program.ensures.ends
    line c.args.area.now e c.args.tableau.now r
    c.args.covering.leaf c.requires.covering.leaf_is c.requires.covering.fits c.args.covering.bound c.requires.covering.bound_is c.in_ok-point.point
    c.in_ok-point.ensures.values c.in_ok-timing.field-0 c.in-Wide.part c.args.pivots q c.in_ok-timing.ensures c.in-Wide.is
