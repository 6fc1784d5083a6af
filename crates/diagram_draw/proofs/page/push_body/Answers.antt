use Rattle.std.proofs.lemmas.Result.{on_ok_weaker}
use Rattle.diagram_draw.specs.Pages.{body_text}
use Rattle.quantity_text.proofs.Pushed.{three_pushed}
use Rattle.diagram_draw.proofs.page.push_body.Goals as goal

pub returns : goal.returns
unfolding body_text
returns c = on_ok_weaker c.push_steps.result (three_pushed _ _ _ _ _ _ _ (rw c.base.ensures at c.in_ok-push_back.ensures) c.in_ok-push_field.ensures)
    c.push_steps.ensures
