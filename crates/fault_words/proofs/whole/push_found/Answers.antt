use Rattle.std.proofs.lemmas.Result.{on_ok_weaker}
use Rattle.quantity_text.proofs.Pushed.{three_pushed}
use Rattle.fault_words.proofs.whole.push_found.Goals as goal

pub returns : goal.returns
returns c = on_ok_weaker c.push_text-2.result (three_pushed _ _ _ _ _ _ _
    c.in_ok-push_text.ensures c.in_ok-push_value.ensures)
    c.push_text-2.ensures
