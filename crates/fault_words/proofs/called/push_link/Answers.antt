use Rattle.std.proofs.lemmas.Result.{on_ok_weaker}
use Rattle.fault_words.specs.Shown.{link_words}
use Rattle.quantity_text.proofs.Pushed.{six_pushed}
use Rattle.fault_words.proofs.called.push_link.Goals as goal

pub returns : goal.returns
unfolding link_words
returns c = on_ok_weaker c.push_called-2.result (six_pushed _ _ _ _ _ _ _ _ _ _ _ _ _
    c.in_ok-push_text.ensures c.in_ok-push_number.ensures c.in_ok-push_text-2.ensures c.in_ok-push_called.ensures c.in_ok-push_text-3.ensures)
    c.push_called-2.ensures
