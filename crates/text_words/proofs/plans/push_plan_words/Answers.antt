use Rattle.std.proofs.lemmas.Result.{on_ok_weaker}
use Rattle.text_words.specs.Plans.{plan_words}
use Rattle.quantity_text.proofs.Pushed.{five_pushed}
use Rattle.text_words.proofs.plans.push_plan_words.Goals as goal

pub returns : goal.returns
unfolding plan_words
returns c =
    on_ok_weaker c.push_text.result (five_pushed _ _ _ _ _ _ _ _ _ _ _ c.in_ok-push_plan.ensures c.in_ok-push_reference.ensures c.in_ok-push_links.ensures c.in_ok-push_fit.ensures)
    c.push_text.ensures
