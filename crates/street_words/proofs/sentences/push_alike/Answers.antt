use Rattle.std.proofs.lemmas.Result.{on_ok_weaker}
use Rattle.street_words.specs.Warnings.{alike_line}
use Rattle.quantity_text.proofs.Pushed.{four_pushed}
use Rattle.street_words.proofs.sentences.push_alike.Goals as goal

pub returns : goal.returns
unfolding alike_line
returns c = on_ok_weaker c.push_text-2.result (four_pushed _ _ _ _ _ _ _ _ _ c.in_ok-push_pair.ensures c.in_ok-push_text.ensures c.in_ok-push_name.ensures) c.push_text-2.ensures
