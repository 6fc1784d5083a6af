use Rattle.std.proofs.lemmas.Result.{on_ok_weaker}
use Rattle.text_words.specs.Claims.{certificate_words}
use Rattle.quantity_text.proofs.Pushed.{four_pushed}
use Rattle.text_words.proofs.claims.push_certificate_words.Goals as goal

pub returns : goal.returns
unfolding certificate_words
returns c =
    on_ok_weaker c.push_text.result (four_pushed _ _ _ _ _ _ _ _ _ c.in_ok-push_its_claim.ensures c.in_ok-push_its_timing.ensures c.in_ok-push_nodes.ensures)
    c.push_text.ensures
