use Rattle.std.proofs.lemmas.Result.{on_ok_weaker}
use Rattle.quantity_text.proofs.Pushed.{three_pushed}
use Rattle.timing_words.proofs.numbers.push_digit.Goals as goal

pub returns : goal.returns
returns c = on_ok_weaker c.push_number-2.result (three_pushed _ _ _ _ _ _ _ c.in_ok-push_number.ensures c.in_ok-push_text.ensures) c.push_number-2.ensures
