use Rattle.std.proofs.Common.{List, sym, subst}
use Rattle.certificate_model.specs.declared.certificate.CertNode.{CertNode}
use Rattle.certificate_model.specs.Warrants.{warrant_of, IsCertificate}
use Rattle.plan_text.specs.FirstText.{certificate_text}
use Rattle.plan_text.specs.CertificateText.{IsHeldWarrant}
use Rattle.plan_text.specs.CertificateReading.{certificate_of}
use Rattle.plan_text.proofs.Certificates.{certificate_again}
use Rattle.plan_text.proofs.WrittenTexts.{read_again}
use Rattle.plan_text.proofs.cert_writing.write_certificate.Goals as goal

pub write_named-requires : goal.write_named-requires
write_named-requires c = subst (λ (ns : List CertNode). IsCertificate (warrant_of c.certificate.inside.claim c.certificate.inside.timing ns)) (sym c.as_slice.ensures.value) c.certificate.invariant

pub returns : goal.returns
returns c =
    let s = c.certificate.inside in
    let w = warrant_of s.claim s.timing s.nodes.items in
    let text = rw (c.as_slice.ensures.value) at c.write_named.ensures.text in
    let held = rw (c.as_slice.ensures.value) at c.write_named.ensures.held in
    rw (← c.certificate.view_is) (record { text = text; read_back = read_again certificate_of certificate_text IsHeldWarrant certificate_again w c.write_named.result text held })
