use Rattle.std.proofs.lemmas.Result.{on_ok_weaker}
use Rattle.fault_words.specs.FaultWords.{list_count}
use Rattle.quantity_text.proofs.Pushed.{four_pushed}
use Rattle.fault_words.proofs.counts.push_list_count.Goals as goal

pub returns : goal.returns
unfolding list_count
returns c = on_ok_weaker c.push_planned.result (four_pushed _ _ _ _ _ _ _ _ _
    c.in_ok-push_text.ensures c.in_ok-push_text-2.ensures c.in_ok-push_text-3.ensures)
    c.push_planned.ensures
