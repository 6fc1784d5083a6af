use Rattle.certificate_model.specs.Warrants.{warrant_of}
use Rattle.plan_text.proofs.Certificates.{headed_takes}
use Rattle.link_proof.specs.LinkTimingTexts.{link_bands}
use Rattle.link_proof.specs.LinkFamilies.{links}
use Rattle.link_proof.specs.LinkWarrants.{links_line}
use Rattle.link_proof.proofs.GrownLinkTimings.{link_laws}
use Rattle.link_proof.proofs.reading.links_of.Goals as goal

pub invariant_of-result : goal.invariant_of-result
invariant_of-result c =
    let p = c.in_ok-parts.parts in
    (headed_takes link_bands link_laws links links_line c.args.bytes.now (warrant_of p.claim p.timing p.nodes.items) c.in_ok-parts.ensures).1.kept
