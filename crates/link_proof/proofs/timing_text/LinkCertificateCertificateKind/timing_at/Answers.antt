use Rattle.std.proofs.Common.{◌+◌}
use Rattle.link_proof.proofs.LinkTimings.{halves_read}
use Rattle.link_proof.proofs.timing_text.LinkCertificateCertificateKind.timing_at.Goals as goal

pub around-timing-requires-clause-half_out : goal.around-timing-requires-clause-half_out
around-timing-requires-clause-half_out c =
    let h = c.in_ok-halves in
    (halves_read (c.args.line + 7) c.count.result c.in_ok-base.base.patterns c.in_ok-first.rest.now (h.halves.outbound.items, h.halves.inbound.items, h.rest.now)
    c.count.ensures.few c.count.ensures.value h.ensures).0

pub around-timing-requires-clause-half_in : goal.around-timing-requires-clause-half_in
around-timing-requires-clause-half_in c =
    let h = c.in_ok-halves in
    (halves_read (c.args.line + 7) c.count.result c.in_ok-base.base.patterns c.in_ok-first.rest.now (h.halves.outbound.items, h.halves.inbound.items, h.rest.now)
    c.count.ensures.few c.count.ensures.value h.ensures).1
