use Rattle.std.proofs.lemmas.Result.{on_ok_weaker}
use Rattle.text_words.specs.Plans.{wants_text}
use Rattle.quantity_text.proofs.Pushed.{four_pushed}
use Rattle.text_words.proofs.plans.push_wants.Goals as goal

pub returns : goal.returns
unfolding wants_text
returns c =
    on_ok_weaker c.push_counted-4.result (four_pushed _ _ _ _ _ _ _ _ _ c.in_ok-push_counted.ensures c.in_ok-push_counted-2.ensures c.in_ok-push_counted-3.ensures) c.push_counted-4.ensures
