use Rattle.std.proofs.lemmas.Result.{on_ok_weaker}
use Rattle.fault_words.specs.FaultWords.{links_words}
use Rattle.quantity_text.proofs.Pushed.{five_pushed}
use Rattle.fault_words.proofs.counts.push_links_words.Goals as goal

pub returns : goal.returns
unfolding links_words
returns c = on_ok_weaker c.push_text-3.result (five_pushed _ _ _ _ _ _ _ _ _ _ _
    c.in_ok-push_text.ensures c.in_ok-push_fewer.ensures c.in_ok-push_text-2.ensures c.in_ok-push_number.ensures)
    c.push_text-3.ensures
