use Rattle.std.proofs.lemmas.Result.{on_ok_weaker}
use Rattle.fault_words.specs.Wants.{below_words}
use Rattle.quantity_text.proofs.Pushed.{three_pushed}
use Rattle.fault_words.proofs.wants.push_below.Goals as goal

pub returns : goal.returns
unfolding below_words
returns c = on_ok_weaker c.push_text-2.result (three_pushed _ _ _ _ _ _ _
    c.in_ok-push_text.ensures c.in_ok-push_parts_number.ensures)
    c.push_text-2.ensures
