use Rattle.std.proofs.lemmas.Result.{on_ok_weaker}
use Rattle.quantity_text.proofs.Pushed.{three_pushed}
use Rattle.diagram_draw.proofs.page.push_drawn.Goals as goal

pub returns : goal.returns
returns c = on_ok_weaker c.push_tail.result (three_pushed _ _ _ _ _ _ _ c.in_ok-push_head.ensures c.in_ok-push_body.ensures) c.push_tail.ensures
