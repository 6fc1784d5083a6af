use Rattle.std.proofs.lemmas.Result.{on_ok_weaker}
use Rattle.fault_words.specs.FaultWords.{plan_counts}
use Rattle.quantity_text.proofs.Pushed.{six_pushed}
use Rattle.fault_words.proofs.counts.push_plan_counts.Goals as goal

pub returns : goal.returns
unfolding plan_counts
returns c = on_ok_weaker c.push_text-2.result (six_pushed _ _ _ _ _ _ _ _ _ _ _ _ _
    c.in_ok-push_text.ensures c.in_ok-push_planned.ensures c.in_ok-push_list_count.ensures c.in_ok-push_out_count.ensures c.in_ok-push_back_count.ensures)
    c.push_text-2.ensures
