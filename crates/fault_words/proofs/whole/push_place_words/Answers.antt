use Rattle.std.proofs.lemmas.Result.{on_ok_weaker}
use Rattle.fault_words.specs.FaultWords.{place_words}
use Rattle.quantity_text.proofs.Pushed.{five_pushed}
use Rattle.fault_words.proofs.whole.push_place_words.Goals as goal

pub returns : goal.returns
unfolding place_words
returns c = on_ok_weaker c.push_number_lines.result (five_pushed _ _ _ _ _ _ _ _ _ _ _
    c.in_ok-push_where.ensures c.in_ok-push_kind.ensures c.in_ok-push_stands_at.ensures c.in_ok-push_lines_of.ensures)
    c.push_number_lines.ensures
