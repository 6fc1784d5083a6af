use Rattle.std.proofs.lemmas.Result.{on_ok_weaker}
use Rattle.certificate_model.specs.Warrants.{Warrant, warrant_of}
use Rattle.search_box.proofs.Streets.{street_of}
use Rattle.certificate_checker.specs.Checked.{IsAcceptedOf}
use Rattle.certificate_checker.specs.Refusals.{one_band}
use Rattle.certificate_checker.proofs.Acceptance.{accepted_of}
use Rattle.certificate_checker.proofs.Meaning.{accepted_holds}
use Rattle.certificate_checker.proofs.checking.check.Goals as goal

pub returns : goal.returns
returns c =
    let a = c.args.artery.now in
    let w : Warrant = warrant_of c.certificate.inside.claim c.certificate.inside.timing c.certificate.inside.nodes.items in
    let accepted = rw c.as_slice.ensures.value at c.check_parts.ensures.accepted in
    let first = rw c.as_slice.ensures.value at c.check_parts.ensures.first in
    rw (← c.certificate.view_is)
    (record {
      accepted = on_ok_weaker c.check_parts.result (λ (h : IsAcceptedOf (one_band a) w). accepted_of a w h) accepted;
      holds = on_ok_weaker c.check_parts.result (λ (h : IsAcceptedOf (one_band a) w). accepted_holds a w (street_of a c.known_valid.ensures) (accepted_of a w h)) accepted;
      first = first;
    })
