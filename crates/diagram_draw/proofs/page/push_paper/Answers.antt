use Rattle.std.proofs.lemmas.Result.{on_ok_weaker}
use Rattle.quantity_text.proofs.Pushed.{two_pushed}
use Rattle.diagram_draw.proofs.page.push_paper.Goals as goal

pub returns : goal.returns
returns c = on_ok_weaker c.push_text.result (two_pushed _ _ _ _ _ c.in_ok-push_tenths.ensures) c.push_text.ensures
