use Rattle.std.proofs.lemmas.Result.{on_ok_weaker}
use Rattle.text_words.specs.Claims.{between_text}
use Rattle.quantity_text.proofs.Pushed.{three_pushed}
use Rattle.text_words.proofs.claims.push_between.Goals as goal

pub returns : goal.returns
unfolding between_text
returns c = on_ok_weaker c.push_text.result (three_pushed _ _ _ _ _ _ _ c.in_ok-push_bound.ensures c.in_ok-push_value.ensures) c.push_text.ensures
