use Rattle.std.proofs.lemmas.Result.{on_ok_weaker}
use Rattle.diagram_draw.specs.Pages.{about_part}
use Rattle.quantity_text.proofs.Pushed.{three_pushed}
use Rattle.diagram_draw.proofs.page.push_about_part.Goals as goal

pub returns : goal.returns
unfolding about_part
returns c = on_ok_weaker c.push_text-2.result (three_pushed _ _ _ _ _ _ _ c.in_ok-push_text.ensures c.in_ok-push_about.ensures) c.push_text-2.ensures
