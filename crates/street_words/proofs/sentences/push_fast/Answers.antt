use Rattle.std.proofs.lemmas.Result.{on_ok_weaker}
use Rattle.street_words.specs.Warnings.{fast_line}
use Rattle.quantity_text.proofs.Pushed.{six_pushed}
use Rattle.street_words.proofs.sentences.push_fast.Goals as goal

pub returns : goal.returns
unfolding fast_line
returns c =
    on_ok_weaker c.push_speed_question.result (six_pushed _ _ _ _ _ _ _ _ _ _ _ _ _
    c.in_ok-push_way.ensures c.in_ok-push_text.ensures c.in_ok-push_greatest.ensures c.in_ok-push_text-2.ensures c.in_ok-push_fastest.ensures)
    c.push_speed_question.ensures
