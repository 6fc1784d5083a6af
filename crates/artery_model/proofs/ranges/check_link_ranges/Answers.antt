use Rattle.std.proofs.lemmas.Result.{err_from_is_err_and}
use Rattle.artery_model.proofs.Chains.{first_named, later_named, later_judged, last_judged}
use Rattle.artery_model.proofs.ranges.check_link_ranges.Goals as goal

pub returns-in_err-check_distance : goal.returns-in_err-check_distance
returns-in_err-check_distance c =
    let p = err_from_is_err_and c.from_residual.result c.from_residual.ensures.1 in
    let flaw = c.in_err-check_distance.field-0.0 in
    rw (p.1, p.2) (first_named flaw _ _ c.in_err-check_distance.ensures)

pub returns-in_err-check_distance-2 : goal.returns-in_err-check_distance-2
returns-in_err-check_distance-2 c =
    let p = err_from_is_err_and c.from_residual-in_err-check_distance-2.result c.from_residual-in_err-check_distance-2.ensures.1 in
    let flaw = c.in_err-check_distance-2.field-0.0 in
    rw (p.1, p.2) (later_named flaw _ _ c.in_ok-check_distance.ensures (first_named flaw _ _ c.in_err-check_distance-2.ensures))

pub returns-in_err-check_speeds : goal.returns-in_err-check_speeds
returns-in_err-check_speeds c =
    let p = err_from_is_err_and c.from_residual-in_err-check_speeds.result c.from_residual-in_err-check_speeds.ensures.1 in
    let flaw = c.in_err-check_speeds.field-0.0 in
    rw (p.1, p.2) (later_named flaw _ _ c.in_ok-check_distance.ensures (later_named flaw _ _ c.in_ok-check_distance-2.ensures (first_named flaw _ _ c.in_err-check_speeds.ensures)))

pub returns-in_err-check_speeds-2 : goal.returns-in_err-check_speeds-2
returns-in_err-check_speeds-2 c =
    let p = err_from_is_err_and c.from_residual-in_err-check_speeds-2.result c.from_residual-in_err-check_speeds-2.ensures.1 in
    let flaw = c.in_err-check_speeds-2.field-0.0 in
    rw (p.1, p.2) (later_named flaw _ _ c.in_ok-check_distance.ensures (later_named flaw _ _ c.in_ok-check_distance-2.ensures
    (later_named flaw _ _ c.in_ok-check_speeds.ensures (first_named flaw _ _ c.in_err-check_speeds-2.ensures))))

pub returns-in_err-check_change : goal.returns-in_err-check_change
returns-in_err-check_change c =
    let p = err_from_is_err_and c.from_residual-in_err-check_change.result c.from_residual-in_err-check_change.ensures.1 in
    let flaw = c.in_err-check_change.field-0.0 in
    rw (p.1, p.2) (later_named flaw _ _ c.in_ok-check_distance.ensures (later_named flaw _ _ c.in_ok-check_distance-2.ensures
    (later_named flaw _ _ c.in_ok-check_speeds.ensures (later_named flaw _ _ c.in_ok-check_speeds-2.ensures (first_named flaw _ _ c.in_err-check_change.ensures)))))

pub returns : goal.returns
returns c = later_judged c.check_change-2.result _ _ c.in_ok-check_distance.ensures (later_judged c.check_change-2.result _ _ c.in_ok-check_distance-2.ensures
    (later_judged c.check_change-2.result _ _ c.in_ok-check_speeds.ensures (later_judged c.check_change-2.result _ _ c.in_ok-check_speeds-2.ensures
    (later_judged c.check_change-2.result _ _ c.in_ok-check_change.ensures (last_judged c.check_change-2.result _ c.check_change-2.ensures)))))
