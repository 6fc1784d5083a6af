use Rattle.std.proofs.lemmas.Result.{on_ok_weaker}
use Rattle.text_words.specs.Plans.{has_text}
use Rattle.quantity_text.proofs.Pushed.{five_pushed}
use Rattle.text_words.proofs.plans.push_has.Goals as goal

pub returns : goal.returns
unfolding has_text
returns c =
    on_ok_weaker c.push_text.result (five_pushed _ _ _ _ _ _ _ _ _ _ _
    c.in_ok-push_counted.ensures c.in_ok-push_counted-2.ensures c.in_ok-push_counted-3.ensures c.in_ok-push_counted-4.ensures)
    c.push_text.ensures
