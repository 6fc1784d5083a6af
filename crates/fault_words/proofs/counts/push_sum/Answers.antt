use Rattle.std.proofs.lemmas.Result.{on_ok_weaker}
use Rattle.fault_words.specs.FaultWords.{sum_line}
use Rattle.quantity_text.proofs.Pushed.{five_pushed}
use Rattle.fault_words.proofs.counts.push_sum.Goals as goal

pub returns : goal.returns
unfolding sum_line
returns c = on_ok_weaker c.push_parts_line.result (five_pushed _ _ _ _ _ _ _ _ _ _ _
    c.in_ok-push_text.ensures c.in_ok-push_parts_at.ensures c.in_ok-push_text-2.ensures c.in_ok-push_parts_at-2.ensures)
    c.push_parts_line.ensures
