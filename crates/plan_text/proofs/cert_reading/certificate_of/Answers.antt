use Rattle.certificate_model.specs.Warrants.{warrant_of}
use Rattle.plan_text.proofs.Certificates.{certificate_takes}
use Rattle.plan_text.proofs.cert_reading.certificate_of.Goals as goal

pub invariant_of-result : goal.invariant_of-result
invariant_of-result c =
    let p = c.in_ok-parts.parts in
    (certificate_takes c.args.bytes.now (warrant_of p.claim p.timing p.nodes.items) c.in_ok-parts.ensures).held.kept
