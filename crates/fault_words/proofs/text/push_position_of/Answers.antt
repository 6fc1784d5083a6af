use Rattle.std.proofs.lemmas.Result.{on_ok_weaker}
use Rattle.fault_words.specs.TextWords.{position_of}
use Rattle.quantity_text.proofs.Pushed.{five_pushed}
use Rattle.fault_words.proofs.text.push_position_of.Goals as goal

pub returns : goal.returns
unfolding position_of
returns c = on_ok_weaker c.push_text-3.result (five_pushed _ _ _ _ _ _ _ _ _ _ _
    c.in_ok-push_text.ensures c.in_ok-push_line_number.ensures c.in_ok-push_text-2.ensures c.in_ok-push_column_number.ensures)
    c.push_text-3.ensures
