use Rattle.std.proofs.lemmas.Result.{on_ok_weaker}
use Rattle.text_words.specs.Faults.{numbers_line}
use Rattle.quantity_text.proofs.Pushed.{four_pushed}
use Rattle.text_words.proofs.sentences.push_numbers.Goals as goal

pub returns : goal.returns
unfolding numbers_line
returns c =
    on_ok_weaker c.push_text.result (four_pushed _ _ _ _ _ _ _ _ _ c.in_ok-push_key.ensures c.in_ok-push_how_many.ensures c.in_ok-push_least.ensures) c.push_text.ensures
