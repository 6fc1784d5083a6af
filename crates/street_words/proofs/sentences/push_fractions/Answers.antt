use Rattle.std.proofs.lemmas.Result.{on_ok_weaker}
use Rattle.street_words.specs.Warnings.{fractions_line}
use Rattle.quantity_text.proofs.Pushed.{three_pushed}
use Rattle.street_words.proofs.sentences.push_fractions.Goals as goal

pub returns : goal.returns
unfolding fractions_line
returns c = on_ok_weaker c.push_text-2.result (three_pushed _ _ _ _ _ _ _ c.in_ok-push_text.ensures c.in_ok-push_number.ensures) c.push_text-2.ensures
