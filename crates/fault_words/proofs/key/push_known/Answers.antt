use Rattle.std.proofs.lemmas.Result.{on_ok_weaker}
use Rattle.fault_words.specs.FaultWords.{known_lines}
use Rattle.quantity_text.proofs.Pushed.{three_pushed}
use Rattle.fault_words.proofs.key.push_known.Goals as goal

pub returns : goal.returns
unfolding known_lines
returns c = on_ok_weaker c.push_other.result (three_pushed _ _ _ _ _ _ _
    c.in_ok-push_wants_line.ensures c.in_ok-push_example_of.ensures)
    c.push_other.ensures
