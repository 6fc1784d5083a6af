use Rattle.std.proofs.lemmas.Result.{on_ok_weaker}
use Rattle.diagram_draw.specs.Pages.{head_text}
use Rattle.quantity_text.proofs.Pushed.{three_pushed}
use Rattle.diagram_draw.proofs.page.push_head.Goals as goal

pub returns : goal.returns
unfolding head_text
returns c = on_ok_weaker c.push_definitions.result (three_pushed _ _ _ _ _ _ _ c.in_ok-push_opening.ensures c.in_ok-push_style.ensures) c.push_definitions.ensures
