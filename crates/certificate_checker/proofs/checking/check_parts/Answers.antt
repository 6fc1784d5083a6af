use Rattle.std.proofs.Common.{inr}
use Rattle.std.proofs.lemmas.Result.{err_from_is_err_and}
use Rattle.narrow_fraction.proofs.Attempt.{attempt_ok, attempt_err}
use Rattle.certificate_model.specs.Warrants.{warrant_of}
use Rattle.certificate_checker.proofs.Acceptance.{numbers_first, checked}
use Rattle.certificate_checker.proofs.checking.check_parts.Goals as goal

pub returns-in_err-check_numbers-clause-first : goal.returns-in_err-check_numbers-clause-first
returns-in_err-check_numbers-clause-first g c =
    let p = err_from_is_err_and c.from_residual-in_err-check_numbers.result c.from_residual-in_err-check_numbers.ensures.1 in
    let k = g.K.CheckedKind.kind c.args.kind.now in
    rw (p.1, p.2) (inr (c.in_ok-check_timing.ensures.good, numbers_first k (warrant_of c.args.claim.now c.args.timing.now c.args.nodes.now) _ (attempt_err _ _ _ c.in_err-check_numbers.ensures)))

-- the nodes are refused exactly where the whole is
pub returns : goal.returns
returns g c =
    let k = g.K.CheckedKind.kind c.args.kind.now in
    let w = warrant_of c.args.claim.now c.args.timing.now c.args.nodes.now in
    let none = rw c.limit_of.ensures at c.check_nodes.ensures.none in
    let first = rw c.limit_of.ensures at c.check_nodes.ensures.first in
    let said = checked k w c.requires.timing c.requires.tree c.in_ok-check_timing.ensures.good (attempt_ok _ _ _ c.in_ok-check_numbers.ensures).0 c.check_nodes.result none first in
    record { accepted = said.0; first = said.1 }
