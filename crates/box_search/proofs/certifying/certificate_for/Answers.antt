use Rattle.std.proofs.Common.{sym, subst}
use Rattle.box_search.specs.Meaning.{rules_from}
use Rattle.box_search.proofs.Certificates.{certificate_parts, certificate_is}
use Rattle.box_search.proofs.Telling.{is_accepted}
use Rattle.box_search.proofs.certifying.certificate_for.Goals as goal

pub certificate-requires : goal.certificate-requires
certificate-requires g c =
    let k = g.S.Sought.kind c.args.sought.now in
    certificate_parts k.objective.worth c.args.found.now _ _ _ _ _ c.worth_of-value.ensures c.claim_by-claim.ensures c.in_ok-timing.ensures c.in_ok-nodes.ensures c.as_slice.ensures.value k.names
    c.requires

pub returns-clause-certificate : goal.returns-clause-certificate
returns-clause-certificate g c =
    let k = g.S.Sought.kind c.args.sought.now in
    certificate_is k.objective.worth c.args.found.now _ _ _ _ _ c.worth_of-value.ensures c.claim_by-claim.ensures c.in_ok-timing.ensures c.in_ok-nodes.ensures c.as_slice.ensures.value _
    c.certificate.ensures

pub returns-clause-accepted : goal.returns-clause-accepted
returns-clause-accepted g c = λ limit h.
    let s = c.args.sought.now in
    let k = g.S.Sought.kind s in
    let e = certificate_is k.objective.worth c.args.found.now _ _ _ _ _ c.worth_of-value.ensures c.claim_by-claim.ensures c.in_ok-timing.ensures c.in_ok-nodes.ensures
    c.as_slice.ensures.value _ c.certificate.ensures in
    subst k.IsAccepted (sym e) (is_accepted (rules_from (g.S.Sought.program s) (g.S.Sought.meaning s)) k c.known_program.ensures.sought limit c.args.found.now h)
