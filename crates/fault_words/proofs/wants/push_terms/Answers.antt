use Rattle.std.proofs.lemmas.Result.{on_ok_weaker}
use Rattle.fault_words.specs.Wants.{terms}
use Rattle.quantity_text.proofs.Pushed.{four_pushed}
use Rattle.fault_words.proofs.wants.push_terms.Goals as goal

pub returns : goal.returns
unfolding terms
returns c = on_ok_weaker c.push_number-2.result (four_pushed _ _ _ _ _ _ _ _ _
    c.in_ok-push_text.ensures c.in_ok-push_number.ensures c.in_ok-push_text-2.ensures)
    c.push_number-2.ensures
