use Rattle.std.proofs.Common.{Ok, map, ap, sym, ◌∙◌}
use Rattle.certificate_model.specs.Warrants.{node_of}
use Rattle.plan_text.proofs.Certificates.{first_read}
use Rattle.plan_text.proofs.cert_reading.first_of.Goals as goal

pub returns : goal.returns
returns g c =
    let o = c.in_ok-opening.opening in
    first_read g.K.CertificateKind.text g.K.CertificateKind.table c.args.bytes.now (o.claim, o.timing, o.line, o.rest.now) (map node_of c.in_ok-nodes.nodes.items)
    c.in_ok-opening.ensures.exact c.in_ok-nodes.ensures
    ∙ ap Ok (sym c.and_nodes.ensures)
