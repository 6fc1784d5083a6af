use Rattle.std.proofs.lemmas.Result.{on_ok_weaker}
use Rattle.street_words.specs.Warnings.{red_line}
use Rattle.quantity_text.proofs.Pushed.{six_pushed}
use Rattle.street_words.proofs.sentences.push_red.Goals as goal

pub returns : goal.returns
unfolding red_line
returns c =
    on_ok_weaker c.push_text-3.result (six_pushed _ _ _ _ _ _ _ _ _ _ _ _ _
    c.in_ok-push_signal.ensures c.in_ok-push_text.ensures c.in_ok-push_red_parts.ensures c.in_ok-push_text-2.ensures c.in_ok-push_all_parts.ensures)
    c.push_text-3.ensures
