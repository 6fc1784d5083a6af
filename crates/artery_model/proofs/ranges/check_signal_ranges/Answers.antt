use Rattle.std.proofs.lemmas.Result.{err_from_is_err_and}
use Rattle.artery_model.proofs.Chains.{first_named, later_named, later_judged, last_judged}
use Rattle.artery_model.proofs.ranges.check_signal_ranges.Goals as goal

pub returns-in_err-check_signal : goal.returns-in_err-check_signal
returns-in_err-check_signal c =
    let p = err_from_is_err_and c.from_residual.result c.from_residual.ensures.1 in
    let flaw = c.in_err-check_signal.field-0.0 in
    rw (p.1, p.2) (first_named flaw _ _ (rw (c.is_name.ensures, c.as_str.ensures) at c.in_err-check_signal.ensures))

pub returns-in_err-check_signal-2 : goal.returns-in_err-check_signal-2
returns-in_err-check_signal-2 c =
    let p = err_from_is_err_and c.from_residual-in_err-check_signal-2.result c.from_residual-in_err-check_signal-2.ensures.1 in
    let flaw = c.in_err-check_signal-2.field-0.0 in
    rw (p.1, p.2) (later_named flaw _ _ (rw (c.is_name.ensures, c.as_str.ensures) at c.in_ok-check_signal.ensures)
    (first_named flaw _ _ (rw (c.is_between-red.ensures, c.saturating_sub.ensures) at c.in_err-check_signal-2.ensures)))

pub returns-in_err-check_signal-3 : goal.returns-in_err-check_signal-3
returns-in_err-check_signal-3 c =
    let p = err_from_is_err_and c.from_residual-in_err-check_signal-3.result c.from_residual-in_err-check_signal-3.ensures.1 in
    let flaw = c.in_err-check_signal-3.field-0.0 in
    rw (p.1, p.2) (later_named flaw _ _ (rw (c.is_name.ensures, c.as_str.ensures) at c.in_ok-check_signal.ensures)
    (later_named flaw _ _ (rw (c.is_between-red.ensures, c.saturating_sub.ensures) at c.in_ok-check_signal-2.ensures) (first_named flaw _ _ c.in_err-check_signal-3.ensures)))

pub returns-in_err-check_signal-4 : goal.returns-in_err-check_signal-4
returns-in_err-check_signal-4 c =
    let p = err_from_is_err_and c.from_residual-in_err-check_signal-4.result c.from_residual-in_err-check_signal-4.ensures.1 in
    let flaw = c.in_err-check_signal-4.field-0.0 in
    rw (p.1, p.2) (later_named flaw _ _ (rw (c.is_name.ensures, c.as_str.ensures) at c.in_ok-check_signal.ensures)
    (later_named flaw _ _ (rw (c.is_between-red.ensures, c.saturating_sub.ensures) at c.in_ok-check_signal-2.ensures)
    (later_named flaw _ _ c.in_ok-check_signal-3.ensures (first_named flaw _ _ c.in_err-check_signal-4.ensures))))

pub returns-in_err-check_signal-5 : goal.returns-in_err-check_signal-5
returns-in_err-check_signal-5 c =
    let p = err_from_is_err_and c.from_residual-in_err-check_signal-5.result c.from_residual-in_err-check_signal-5.ensures.1 in
    let flaw = c.in_err-check_signal-5.field-0.0 in
    rw (p.1, p.2) (later_named flaw _ _ (rw (c.is_name.ensures, c.as_str.ensures) at c.in_ok-check_signal.ensures)
    (later_named flaw _ _ (rw (c.is_between-red.ensures, c.saturating_sub.ensures) at c.in_ok-check_signal-2.ensures)
    (later_named flaw _ _ c.in_ok-check_signal-3.ensures (later_named flaw _ _ c.in_ok-check_signal-4.ensures (first_named flaw _ _ c.in_err-check_signal-5.ensures)))))

pub returns : goal.returns
returns c = later_judged c.check_signal-6.result _ _ (rw (c.is_name.ensures, c.as_str.ensures) at c.in_ok-check_signal.ensures)
    (later_judged c.check_signal-6.result _ _ (rw (c.is_between-red.ensures, c.saturating_sub.ensures) at c.in_ok-check_signal-2.ensures)
    (later_judged c.check_signal-6.result _ _ c.in_ok-check_signal-3.ensures (later_judged c.check_signal-6.result _ _ c.in_ok-check_signal-4.ensures
    (later_judged c.check_signal-6.result _ _ c.in_ok-check_signal-5.ensures (last_judged c.check_signal-6.result _ c.check_signal-6.ensures)))))
