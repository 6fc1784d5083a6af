use Rattle.std.proofs.lemmas.Result.{on_ok_weaker}
use Rattle.diagram_draw.specs.Pages.{svg_opening}
use Rattle.quantity_text.proofs.Pushed.{four_pushed}
use Rattle.diagram_draw.proofs.page.push_svg_opening.Goals as goal

pub returns : goal.returns
unfolding svg_opening
returns c = on_ok_weaker c.push_text-2.result (four_pushed _ _ _ _ _ _ _ _ _ c.in_ok-push_text.ensures c.in_ok-push_size.ensures c.in_ok-push_box.ensures) c.push_text-2.ensures
