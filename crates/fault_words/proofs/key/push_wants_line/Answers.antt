use Rattle.std.proofs.lemmas.Result.{on_ok_weaker}
use Rattle.fault_words.specs.FaultWords.{wants_line}
use Rattle.quantity_text.proofs.Pushed.{five_pushed}
use Rattle.fault_words.proofs.key.push_wants_line.Goals as goal

pub returns : goal.returns
unfolding wants_line
returns c = on_ok_weaker c.push_text-2.result (five_pushed _ _ _ _ _ _ _ _ _ _ _
    c.in_ok-push_text.ensures c.in_ok-push_wants.ensures c.in_ok-push_unit_of.ensures c.in_ok-push_fineness.ensures)
    c.push_text-2.ensures
