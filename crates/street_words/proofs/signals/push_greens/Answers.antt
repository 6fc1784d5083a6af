use Rattle.std.proofs.lemmas.Result.{on_ok_weaker}
use Rattle.street_words.specs.Streets.{greens_text}
use Rattle.quantity_text.proofs.Pushed.{five_pushed}
use Rattle.street_words.proofs.signals.push_greens.Goals as goal

pub returns : goal.returns
unfolding greens_text
returns c =
    on_ok_weaker c.push_text-3.result (five_pushed _ _ _ _ _ _ _ _ _ _ _ c.in_ok-push_text.ensures c.in_ok-push_green.ensures c.in_ok-push_text-2.ensures c.in_ok-push_green-2.ensures)
    c.push_text-3.ensures
