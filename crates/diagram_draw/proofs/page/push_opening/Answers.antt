use Rattle.std.proofs.lemmas.Result.{on_ok_weaker}
use Rattle.quantity_text.proofs.Pushed.{three_pushed}
use Rattle.diagram_draw.proofs.page.push_opening.Goals as goal

pub returns : goal.returns
returns c = on_ok_weaker c.push_about_part.result (three_pushed _ _ _ _ _ _ _ c.in_ok-push_svg_opening.ensures c.in_ok-push_title_part.ensures) c.push_about_part.ensures
