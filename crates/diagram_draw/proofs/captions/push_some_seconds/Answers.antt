use Rattle.std.proofs.lemmas.Result.{on_ok_weaker}
use Rattle.quantity_text.proofs.Pushed.{two_pushed}
use Rattle.diagram_draw.proofs.captions.push_some_seconds.Goals as goal

pub returns : goal.returns
returns c = on_ok_weaker c.push_text.result (two_pushed _ _ _ _ _ c.in_ok-push_seconds.ensures) c.push_text.ensures
