use Rattle.std.proofs.lemmas.Result.{on_ok_weaker}
use Rattle.fault_words.specs.FaultWords.{where_line}
use Rattle.quantity_text.proofs.Pushed.{six_pushed}
use Rattle.fault_words.proofs.whole.push_where.Goals as goal

pub returns : goal.returns
unfolding where_line
returns c = on_ok_weaker c.push_text-3.result (six_pushed _ _ _ _ _ _ _ _ _ _ _ _ _
    c.in_ok-push_text.ensures c.in_ok-push_section.ensures c.in_ok-push_text-2.ensures c.in_ok-push_key.ensures c.in_ok-push_item_suffix.ensures)
    c.push_text-3.ensures
