use Rattle.std.proofs.Common.{List, sym, subst}
use Rattle.certificate_model.specs.declared.certificate.CertNode.{CertNode}
use Rattle.certificate_model.specs.Warrants.{warrant_of}
use Rattle.plan_text.proofs.WrittenTexts.{read_again}
use Rattle.link_proof.specs.LinkWarrants.{IsLinkCertificate, IsHeldLinkWarrant, links_text, links_of}
use Rattle.link_proof.proofs.LinkTexts.{links_again}
use Rattle.link_proof.proofs.writing.write_links.Goals as goal

pub write_named-requires : goal.write_named-requires
write_named-requires c = subst (λ (ns : List CertNode). IsLinkCertificate (warrant_of c.certificate.inside.claim c.certificate.inside.timing ns))
    (sym c.as_slice-nodes.ensures.value) c.certificate.invariant

pub returns : goal.returns
returns c =
    let s = c.certificate.inside in
    let w = warrant_of s.claim s.timing s.nodes.items in
    let text = rw (c.as_slice-nodes.ensures.value) at c.write_named.ensures.text in
    let held = rw (c.as_slice-nodes.ensures.value) at c.write_named.ensures.held in
    rw (← c.certificate.view_is) (record { text = text; read_back = read_again links_of links_text IsHeldLinkWarrant links_again w c.write_named.result text held })
