use Rattle.std.proofs.lemmas.Result.{on_ok_weaker}
use Rattle.text_words.specs.Claims.{link_words}
use Rattle.quantity_text.proofs.Pushed.{three_pushed}
use Rattle.text_words.proofs.claims.push_link_certificate_words.Goals as goal

pub returns : goal.returns
unfolding link_words
returns c =
    on_ok_weaker c.push_text.result (three_pushed _ _ _ _ _ _ _ c.in_ok-push_link_claim.ensures c.in_ok-push_link_nodes.ensures)
    c.push_text.ensures
