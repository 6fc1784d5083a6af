use Rattle.std.proofs.lemmas.Result.{on_ok_weaker}
use Rattle.street_words.specs.Warnings.{travel_line}
use Rattle.quantity_text.proofs.Pushed.{six_pushed}
use Rattle.street_words.proofs.sentences.push_travel.Goals as goal

pub returns : goal.returns
unfolding travel_line
returns c =
    on_ok_weaker c.push_length_question.result (six_pushed _ _ _ _ _ _ _ _ _ _ _ _ _
    c.in_ok-push_way.ensures c.in_ok-push_text.ensures c.in_ok-push_run.ensures c.in_ok-push_text-2.ensures c.in_ok-push_limit.ensures)
    c.push_length_question.ensures
