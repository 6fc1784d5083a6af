use Rattle.std.proofs.lemmas.Result.{on_ok_weaker}
use Rattle.text_words.specs.Faults.{several_text}
use Rattle.quantity_text.proofs.Pushed.{three_pushed}
use Rattle.text_words.proofs.sentences.push_several.Goals as goal

pub returns : goal.returns
unfolding several_text
returns c = on_ok_weaker c.push_text-2.result (three_pushed _ _ _ _ _ _ _ c.in_ok-push_text.ensures c.in_ok-push_number.ensures) c.push_text-2.ensures
