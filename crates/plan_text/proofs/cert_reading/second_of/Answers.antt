use Rattle.std.proofs.Common.{◌≡◌, Ok, List, map, ap, sym, subst, ◌∙◌}
use Rattle.named_row.specs.declared.names.RowId.{RowId}
use Rattle.certificate_model.specs.Warrants.{node_of}
use Rattle.plan_text.specs.Namings.{Listed}
use Rattle.plan_text.specs.CertificateReading.{tree_at}
use Rattle.plan_text.proofs.Certificates.{second_read}
use Rattle.plan_text.proofs.cert_reading.second_of.Goals as goal

pub returns : goal.returns
returns c =
    let o = c.in_ok-opening.opening in
    let r = c.in_ok-rows in
    let nodes = map node_of c.in_ok-nodes.nodes.items in
    let tree : tree_at (Listed r.rows.items) r.line r.rest.now ≡ Ok nodes = subst (λ (rows : List RowId). tree_at (Listed rows) r.line r.rest.now ≡ Ok nodes)
    c.as_slice.ensures.value c.in_ok-nodes.ensures in
    second_read c.args.bytes.now (o.claim, o.timing, o.line, o.rest.now) (r.rows.items, r.line, r.rest.now) nodes c.in_ok-opening.ensures.exact r.ensures.exact tree ∙ ap Ok (sym c.and_nodes.ensures)
