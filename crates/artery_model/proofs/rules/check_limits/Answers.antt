use Rattle.std.proofs.lemmas.Result.{err_from_is_err_and}
use Rattle.artery_model.proofs.Chains.{first_named}
use Rattle.artery_model.proofs.rules.check_limits.Goals as goal

pub returns-in_err-check_speeds : goal.returns-in_err-check_speeds
returns-in_err-check_speeds c =
    let p = err_from_is_err_and c.from_residual.result c.from_residual.ensures.1 in
    rw (p.1, p.2) (first_named c.in_err-check_speeds.field-0.0 _ _ c.in_err-check_speeds.ensures)
