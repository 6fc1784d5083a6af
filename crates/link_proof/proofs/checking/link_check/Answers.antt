use Rattle.std.proofs.lemmas.Result.{on_ok_weaker}
use Rattle.certificate_model.specs.Warrants.{warrant_of}
use Rattle.search_box.proofs.Streets.{street_of}
use Rattle.link_proof.specs.LinkWarrants.{LinkWarrant}
use Rattle.link_proof.specs.LinkAccepted.{IsLinkAccepted}
use Rattle.link_proof.proofs.LinkMeaning.{links_accepted_holds}
use Rattle.link_proof.proofs.checking.link_check.Goals as goal

pub returns : goal.returns
returns c =
    let w : LinkWarrant = warrant_of c.certificate.inside.claim c.certificate.inside.timing c.certificate.inside.nodes.items in
    let said = rw c.as_slice-nodes.ensures.value at c.check_parts.ensures in
    let street = street_of c.args.artery.now c.known_valid.ensures in
    rw (← c.certificate.view_is)
    (record {
      accepted = said.accepted;
      holds = on_ok_weaker c.check_parts.result (λ (h : IsLinkAccepted c.args.artery.now w). links_accepted_holds c.args.artery.now w street h)
          said.accepted;
      first = said.first;
    })
