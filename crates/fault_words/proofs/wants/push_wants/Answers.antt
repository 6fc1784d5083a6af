use Rattle.std.proofs.lemmas.Result.{on_ok_weaker}
use Rattle.fault_words.specs.Wants.{wants}
use Rattle.quantity_text.proofs.Pushed.{four_pushed}
use Rattle.fault_words.proofs.wants.push_wants.Goals as goal

pub returns : goal.returns
unfolding wants
returns c = on_ok_weaker c.push_range-2.result (four_pushed _ _ _ _ _ _ _ _ _
    c.in_ok-push_type.ensures c.in_ok-push_each_type.ensures c.in_ok-push_range.ensures)
    c.push_range-2.ensures
