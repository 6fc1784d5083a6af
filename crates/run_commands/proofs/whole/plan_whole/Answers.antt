use Rattle.std.proofs.Common.{◌≡◌, None, inl, rules}
use Rattle.certificate_checker.specs.Accepted.{limit_of}
use Rattle.run_commands.specs.Bound.{IsBound}
use Rattle.run_commands.proofs.Wholes.{planless, claims_none}
use Rattle.run_commands.proofs.whole.plan_whole.Goals as goal

pub returns-in-None-clause-finds : goal.returns-in-None-clause-finds
returns-in-None-clause-finds c =
    let accepted : IsBound c.args.artery.now c.args.certificate.now = search rules in
    let none : limit_of c.args.certificate.now.claim ≡ None = search rules in
    planless c.args.artery.now c.args.certificate.now c.args.named.now _ c.unplanned.result
    (inl (claims_none c.args.artery.now c.args.certificate.now c.args.named.now accepted none))
    c.unplanned.ensures.cause c.unplanned.ensures.lines c.unplanned.ensures.no_put
